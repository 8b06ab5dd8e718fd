-- The flat design of a top module, or why there is none.
-- Worked examples: proofs/Examples.antt, crates/tests_rows/stdin.
use Rattle.std.specs.Prelude.{ℕ, List, [], Option, None, Some, Result, Ok, Err}
use Rattle.rtl_tree.specs.TreeModule.{Circuit}
use Rattle.elab_lawful.specs.elab_scope.Faults.{Answer, ModuleTwice, Named, NoSuchModule}
use Rattle.elab_lawful.specs.elab_links.declared.module_set.Lookup.{Lookup}
use Rattle.elab_lawful.specs.elab_links.declared.module_set.Lookup.TheVariants.{Missing, Found, Twice}
use Rattle.elab_lawful.specs.elab_links.declared.module_set.Place.{Place}
use Rattle.elab_lawful.specs.elab_links.Modules.{circuit_at}
use Rattle.elab_lawful.specs.elab_walk.Refusals.{come_to, refusal}
use Rattle.elab_lawful.specs.elab_walk.Rooms.{whole_room}
use Rattle.elab_lawful.specs.elab_walk.Placements.{Placement, placements}
use Rattle.elab_lawful.specs.elab_walk.Visits.{Library, Visit, all_visits, top_visit}
use Rattle.elab_lawful.specs.elab_flat.Flats.{flat_of}
use Rattle.elab_readings.specs.Readings.{notes_of}
use Rattle.rtl_flat.specs.declared.note.Note.{Note}
use Rattle.rtl_flat.specs.Flats.{DesignParts}

-- a design with what other tools read otherwise in its texts
abbrev pub noted : List Note → DesignParts → DesignParts
noted notes design =
    record {
      parts = record {
        flat = design.parts.flat;
        delays = design.parts.delays;
        dropped = design.parts.dropped;
        notes = notes;
      };
      instances = design.instances;
    }

-- the design that instances make
abbrev pub made_of : Library → List Placement → DesignParts
made_of library all = noted (notes_of all) (flat_of library all)

abbrev pub decided : Option Answer → DesignParts → Result DesignParts Answer
decided None flat = Ok flat
decided (Some answer) flat = Err answer

abbrev pub elaborated_of : Library → List Visit → Result DesignParts Answer
elaborated_of library all =
    decided (refusal library whole_room all) (made_of library (placements 0 0 all))

abbrev pub elaborated_at : Library → List ℕ → Place → Option Circuit → Result DesignParts Answer
elaborated_at library top place None = Err (Named (NoSuchModule top))
elaborated_at library top place (Some circuit) =
    elaborated_of library (all_visits library (top_visit place circuit))

abbrev pub elaborated_found : Library → List ℕ → Lookup → Result DesignParts Answer
elaborated_found library top Missing = Err (Named (NoSuchModule top))
elaborated_found library top Twice = Err (Named (ModuleTwice top))
elaborated_found library top (Found place) =
    elaborated_at library top place (circuit_at library.files place)

-- what elaboration makes of the module with a name
abbrev pub elaborated : Library → List ℕ → Result DesignParts Answer
elaborated library top = elaborated_found library top (library.lookups top)

-- why there is no design
abbrev pub refused : Result DesignParts Answer → Option Answer
refused (Ok flat) = None
refused (Err answer) = Some answer

-- ---- the instances to which elaboration comes

abbrev pub visited_from : Library → Place → Option Circuit → List Visit
visited_from library place None = []
visited_from library place (Some circuit) =
    come_to library whole_room (all_visits library (top_visit place circuit))

abbrev pub visited_found : Library → Lookup → List Visit
visited_found library Missing = []
visited_found library Twice = []
visited_found library (Found place) = visited_from library place (circuit_at library.files place)

-- all instances of the module with a name, or those up to the first of which something is told
abbrev pub visited : Library → List ℕ → List Visit
visited library top = visited_found library (library.lookups top)
