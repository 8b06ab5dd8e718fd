-- What elaboration makes of a top in the files that it uses is what it makes among all, but for the numbers of the files.
use Rattle.std.specs.List.{Contains}
use Rattle.std.specs.Option.{option_map}
use Rattle.std.proofs.Common.{◌≡◌, ◌∙◌, ℕ, List, map, None, Ok, refl, ap}
use Rattle.rtl_elab.specs.elab_links.declared.module_set.Lookup.TheVariants.{Found}
use Rattle.rtl_elab.specs.elab_links.declared.module_set.Place.{Place}
use Rattle.rtl_elab.specs.elab_links.Modules.{circuit_at}
use Rattle.rtl_elab.specs.elab_walk.Placements.{placements}
use Rattle.rtl_elab.specs.elab_walk.Visits.{Library}
use Rattle.rtl_elab.specs.Elaborated.{elaborated, made_of, refused, visited}
use Rattle.elab_names.specs.Extracts.{extract, files_at, place_in}
use Rattle.elab_names.specs.LookUps.{AreUsed, looked_up}
use Rattle.elab_names.specs.Moves.{moved_answer, moved_place, moved_placement, moved_visit}
use Rattle.elab_names.proofs.Moving.{AgreeBy, design_by, looked_up_by, refused_by, visited_by}
use Rattle.elab_names.proofs.Numbering.{circuit_numbered, place_of}

module _ (library : Library) (top : List ℕ) (numbers : List ℕ) (are : AreUsed library top numbers) where
  -- a file in which a module stands that a name means is one of those
  pub file_among : (name : List ℕ) (place : Place) → Contains (looked_up library top) name → library.lookups name ≡ Found place → Contains numbers place.file
  file_among name place asked is =
      (are.each place.file).1 (record { name = name; index = place.index; asked = asked; means = is })

  circuit_there : (place : Place) → Contains numbers place.file → circuit_at (files_at numbers library.files) (moved_place (place_in numbers) place) ≡ circuit_at library.files place
  circuit_there place among =
      let (below, is) = place_of numbers place.file among in
      circuit_numbered numbers library.files (moved_place (place_in numbers) place) below
      ∙ ap (λ (file : ℕ). circuit_at library.files (record { file = file; index = place.index })) is

  pub agrees : AgreeBy (place_in numbers) library (extract numbers library) top
  agrees name asked =
      record { lookup = refl; circuit = λ place is. circuit_there place (file_among name place asked is) }

pub visited_moved : (library : Library) (top : List ℕ) (numbers : List ℕ) → AreUsed library top numbers → visited (extract numbers library) top ≡ map (moved_visit (place_in numbers)) (visited library top)
visited_moved library top numbers are =
    visited_by (place_in numbers) library (extract numbers library) top (agrees library top numbers are)

pub looked_up_same : (library : Library) (top : List ℕ) (numbers : List ℕ) → AreUsed library top numbers → looked_up (extract numbers library) top ≡ looked_up library top
looked_up_same library top numbers are =
    looked_up_by (place_in numbers) library (extract numbers library) top (agrees library top numbers are)

pub refusal_moved : (library : Library) (top : List ℕ) (numbers : List ℕ) → AreUsed library top numbers → refused (elaborated (extract numbers library) top) ≡ option_map (moved_answer (place_in numbers)) (refused (elaborated library top))
refusal_moved library top numbers are =
    refused_by (place_in numbers) library (extract numbers library) top (agrees library top numbers are)

pub design_moved : (library : Library) (top : List ℕ) (numbers : List ℕ) → AreUsed library top numbers → refused (elaborated library top) ≡ None → elaborated (extract numbers library) top ≡ Ok (made_of library (map (moved_placement (place_in numbers)) (placements 0 0 (visited library top))))
design_moved library top numbers are =
    design_by (place_in numbers) library (extract numbers library) top (agrees library top numbers are)
