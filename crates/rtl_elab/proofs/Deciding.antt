-- What elaboration makes is lawful.
use Rattle.std.specs.Prelude.{ℕ, ◌≡◌, List, Option, None, Some, Ok, Err}
use Rattle.std.proofs.Common.{◌∙◌, refl, subst}
use Rattle.rtl_tree.specs.TreeModule.{Circuit}
use Rattle.elab_lawful.specs.elab_scope.Faults.{Answer}
use Rattle.elab_lawful.specs.elab_links.declared.module_set.Lookup.{Lookup}
use Rattle.elab_lawful.specs.elab_links.declared.module_set.Lookup.TheVariants.{Missing, Found, Twice}
use Rattle.elab_lawful.specs.elab_links.declared.module_set.Place.{Place}
use Rattle.elab_lawful.specs.elab_links.Modules.{circuit_at}
use Rattle.elab_lawful.specs.elab_walk.Refusals.{refusal}
use Rattle.elab_lawful.specs.elab_walk.Rooms.{whole_room}
use Rattle.elab_lawful.specs.elab_walk.Placements.{placements}
use Rattle.elab_lawful.specs.elab_walk.Visits.{Library, Visit, all_visits, top_visit}
use Rattle.rtl_flat.specs.Flats.{DesignParts}
use Rattle.elab_lawful.specs.Laws.{IsLawful}
use Rattle.elab_lawful.proofs.Designs.{lawful}
use Rattle.rtl_elab.specs.Elaborated.{decided, elaborated, elaborated_at, elaborated_found, made_of}

by_told : (told : Option Answer) (made f : DesignParts) → (told ≡ None → IsLawful made) → decided told made ≡ Ok f → IsLawful f
by_told None made f law is =
    let same : made ≡ f = cc in
    subst IsLawful same (law refl)
by_told (Some answer) made f law is = absurd cc

at_place : (library : Library) (top : List ℕ) (place : Place) (circuit : Option Circuit) (f : DesignParts) → elaborated_at library top place circuit ≡ Ok f → IsLawful f
at_place library top place None f is = absurd cc
at_place library top place (Some circuit) f is =
    let v = top_visit place circuit in
    by_told (refusal library whole_room (all_visits library v)) (made_of library (placements 0 0 (all_visits library v))) f (lawful library v refl) is

found_there : (library : Library) (top : List ℕ) (lookup : Lookup) (f : DesignParts) → elaborated_found library top lookup ≡ Ok f → IsLawful f
found_there library top Missing f is = absurd cc
found_there library top Twice f is = absurd cc
found_there library top (Found place) f is =
    at_place library top place (circuit_at library.files place) f is

pub elaborated_lawful : (library : Library) (top : List ℕ) (f : DesignParts) → elaborated library top ≡ Ok f → IsLawful f
elaborated_lawful library top f is = found_there library top (library.lookups top) f is
