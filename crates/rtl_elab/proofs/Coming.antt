-- Where nothing is told, the walk comes to all instances, and the design is made of them.
use Rattle.std.specs.Prelude.{ℕ, ◌≡◌, List, Option, None, Some, Ok}
use Rattle.std.proofs.Common.{◌∙◌, ap, refl, subst, sym}
use Rattle.rtl_tree.specs.TreeModule.{Circuit}
use Rattle.elab_lawful.specs.elab_scope.Faults.{Answer}
use Rattle.elab_lawful.specs.elab_links.declared.module_set.Lookup.{Lookup}
use Rattle.elab_lawful.specs.elab_links.declared.module_set.Lookup.TheVariants.{Missing, Found, Twice}
use Rattle.elab_lawful.specs.elab_links.declared.module_set.Place.{Place}
use Rattle.elab_lawful.specs.elab_links.Modules.{circuit_at}
use Rattle.elab_lawful.specs.elab_walk.Refusals.{refusal}
use Rattle.elab_lawful.specs.elab_walk.Rooms.{whole_room}
use Rattle.elab_lawful.specs.elab_walk.Placements.{placements}
use Rattle.elab_lawful.specs.elab_walk.Visits.{Library, Visit, all_visits, top_visit}
use Rattle.elab_lawful.proofs.elab_walk_proofs.Ending.{all_come_to}
use Rattle.elab_lawful.specs.elab_flat.Children.{HaveChildren}
use Rattle.rtl_flat.specs.Flats.{DesignParts}
use Rattle.elab_lawful.proofs.Trees.{all_have_children}
use Rattle.rtl_elab.specs.Elaborated.{decided, elaborated, elaborated_at, elaborated_found, made_of, refused, visited, visited_found, visited_from}

-- ---- what is told

refused_decided : (told : Option Answer) (made : DesignParts) → refused (decided told made) ≡ told
refused_decided None made = refl
refused_decided (Some answer) made = refl

decided_made : (told : Option Answer) (made : DesignParts) → told ≡ None → decided told made ≡ Ok made
decided_made None made is = refl
decided_made (Some answer) made is = absurd cc

-- ---- the design

at_made : (library : Library) (top : List ℕ) (place : Place) (circuit : Option Circuit) → refused (elaborated_at library top place circuit) ≡ None → elaborated_at library top place circuit ≡ Ok (made_of library (placements 0 0 (visited_from library place circuit)))
at_made library top place None is = absurd cc
at_made library top place (Some circuit) is =
    let all = all_visits library (top_visit place circuit) in
    let told = refusal library whole_room all in
    let made = made_of library (placements 0 0 all) in
    let nothing : told ≡ None = sym (refused_decided told made) ∙ is in
    decided_made told made nothing
    ∙ ap (λ (vs : List Visit). Ok (made_of library (placements 0 0 vs))) (sym (all_come_to library whole_room all nothing))

found_made : (library : Library) (top : List ℕ) (lookup : Lookup) → refused (elaborated_found library top lookup) ≡ None → elaborated_found library top lookup ≡ Ok (made_of library (placements 0 0 (visited_found library lookup)))
found_made library top Missing is = absurd cc
found_made library top Twice is = absurd cc
found_made library top (Found place) is = at_made library top place (circuit_at library.files place) is

-- a top of which nothing is told has the design of the instances to which the walk comes
pub elaborated_made : (library : Library) (top : List ℕ) → refused (elaborated library top) ≡ None → elaborated library top ≡ Ok (made_of library (placements 0 0 (visited library top)))
elaborated_made library top is = found_made library top (library.lookups top) is

-- ---- the children of its instances

at_held : (library : Library) (top : List ℕ) (place : Place) (circuit : Option Circuit) → refused (elaborated_at library top place circuit) ≡ None → HaveChildren library (placements 0 0 (visited_from library place circuit))
at_held library top place None is = tt
at_held library top place (Some circuit) is =
    let v = top_visit place circuit in
    let all = all_visits library v in
    let nothing : refusal library whole_room all ≡ None
    = sym (refused_decided (refusal library whole_room all) (made_of library (placements 0 0 all))) ∙ is in
    subst (λ (vs : List Visit). HaveChildren library (placements 0 0 vs)) (sym (all_come_to library whole_room all nothing)) (all_have_children library v refl)

found_held : (library : Library) (top : List ℕ) (lookup : Lookup) → refused (elaborated_found library top lookup) ≡ None → HaveChildren library (placements 0 0 (visited_found library lookup))
found_held library top Missing is = tt
found_held library top Twice is = tt
found_held library top (Found place) is = at_held library top place (circuit_at library.files place) is

-- a top of which nothing is told has right under each instance its children
pub elaborated_held : (library : Library) (top : List ℕ) → refused (elaborated library top) ≡ None → HaveChildren library (placements 0 0 (visited library top))
elaborated_held library top is = found_held library top (library.lookups top) is
