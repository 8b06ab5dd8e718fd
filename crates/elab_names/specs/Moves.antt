-- It serves inner contracts and proofs; no answer of the program is stated by it.
-- Instances, faults and names where files have other numbers.
use Rattle.std.specs.Prelude.{ℕ, ◌≡◌, ◌↔◌, List}
use Rattle.std.specs.List.{Contains}
use Rattle.std.specs.List.Sorted.{IsStrictlyIncreasing}
use Rattle.text_ground.specs.declared.text.Spot.{Spot}
use Rattle.rtl_elab.specs.elab_scope.Faults.{Answer, Memory, Named, Placed}
use Rattle.rtl_elab.specs.elab_links.declared.module_set.Place.{Place}
use Rattle.rtl_elab.specs.elab_links.declared.module_set.Lookup.TheVariants.{Found}
use Rattle.rtl_elab.specs.elab_walk.Placements.{Placement}
use Rattle.rtl_elab.specs.elab_walk.Visits.{Visit}
use Rattle.elab_lookups.specs.declared.look_up.LookUp.{LookUp}
use Rattle.elab_names.specs.Extracts.{renumbered}

abbrev pub moved_place : (ℕ → ℕ) → Place → Place
moved_place number place = record { file = number place.file; index = place.index }

abbrev pub moved_spot : (ℕ → ℕ) → Spot → Spot
moved_spot number spot = record { file = number spot.file; at = spot.at }

abbrev pub moved_visit : (ℕ → ℕ) → Visit → Visit
moved_visit number v =
    record {
      path = v.path;
      place = moved_place number v.place;
      circuit = v.circuit;
      settings = v.settings;
      way = v.way;
      spot = moved_spot number v.spot;
    }

abbrev pub moved_placement : (ℕ → ℕ) → Placement → Placement
moved_placement number placement =
    record { visit = moved_visit number placement.visit; number = placement.number; base = placement.base }

abbrev pub moved_answer : (ℕ → ℕ) → Answer → Answer
moved_answer number Memory = Memory
moved_answer number (Named breach) = Named breach
moved_answer number (Placed breach spot) = Placed breach (moved_spot number spot)

abbrev pub moved_look_up : (ℕ → ℕ) → LookUp → LookUp
moved_look_up number look_up =
    record { name = look_up.name; meant = renumbered number look_up.meant }

-- a name of these means a module in the file
pub record HasFile (found : List LookUp) (file : ℕ) : Type 0 where
  pub look_up : LookUp
  pub index : ℕ
  pub among : Contains found look_up
  pub means : look_up.meant ≡ Found (record { file = file; index = index })

-- the files in which the modules stand that names mean, each once and ascending
pub record AreFilesOf (found : List LookUp) (numbers : List ℕ) : Type 0 where
  pub ascending : IsStrictlyIncreasing numbers
  pub each : (file : ℕ) → Contains numbers file ↔ HasFile found file
