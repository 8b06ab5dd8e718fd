use Rattle.std.proofs.Common.{◌≡◌, ◌∙◌, ◌++◌, ℕ, List, drop, length, map, take, Ok, Some, None, Result, ap, subst, sym}
use Rattle.std.specs.Option.{option_map}
use Rattle.std.proofs.lemmas.List.{take_at}
use Rattle.rtl_flat.specs.declared.design.Design.{Design}
use Rattle.rtl_elab.specs.elab_scope.declared.fault.ElabFault.{ElabFault}
use Rattle.rtl_elab.specs.elab_scope.Faults.{answer}
use Rattle.rtl_elab.specs.elab_walk.Placements.{placements}
use Rattle.rtl_elab.specs.elab_walk.Trails.{AreDeclared, placement}
use Rattle.rtl_elab.specs.elab_walk.Visits.{library}
use Rattle.rtl_flat.specs.Flats.{DesignParts}
use Rattle.rtl_elab.specs.Designs.{noted_parts}
use Rattle.rtl_elab.specs.Elaborated.{elaborated, refused, visited}
use Rattle.elab_lookups.specs.declared.look_up.LookUp.{LookUp}
use Rattle.elab_names.specs.Asking.{AreFound}
use Rattle.elab_names.specs.Extracts.{IsElaborated, extract, place_in}
use Rattle.elab_names.specs.LookUps.{AreLookUps, AreUsed, looked_up}
use Rattle.elab_names.specs.Moves.{moved_answer, moved_look_up, moved_placement}
use Rattle.elab_names.proofs.Extracting.{looked_up_same}
use Rattle.elab_names.proofs.Finding.{all_found, all_look_ups, used_there}
use Rattle.rtl_elab.proofs.Deciding.{elaborated_lawful}
use Rattle.elab_names.proofs.Holding.{held_there}
use Rattle.elab_names.proofs.Making.{made_there, moved_back, refused_there}
use Rattle.elab_names.proofs.design.elaborate_in.Goals as goal
use Rattle.elab_names.proofs.design.elaborate_in.Goals.{in-Some+in_ok-moved_fault-in-Some, in-None+in_ok-move_placements-in-None+in_ok-made_of-in-None}

pub made_of-requires-clause-declared : goal.made_of-requires-clause-declared
made_of-requires-clause-declared c =
    let before = c.deref_mut-in-None.result.now in
    let new = c.move_placements.new.placements in
    let given : AreDeclared before = subst AreDeclared (sym c.deref_mut-in-None.ensures.value) c.in_ok-placements.ensures.declared in
    let shown = c.deref_mut-in-None-2.ensures.value ∙ take_at new (drop (length new) c.in_ok-placements.field-0.placements.items) c.in_ok-placements.field-0.placements.len (c.move_placements.auto.placements ∙ c.deref_mut-in-None.ensures.len) in
    subst AreDeclared (sym shown) (c.in_ok-move_placements-in-None.ensures.declared given)

pub made_of-requires-clause-held : goal.made_of-requires-clause-held
made_of-requires-clause-held c =
    let all = library c.args.all in
    let top = c.args.top.now in
    let numbers = c.in_ok-files.files.items in
    let come : map placement c.deref.result.now ≡ placements 0 0 (visited all top) = cc (c.in_ok-placements.ensures.visited, c.deref.ensures.value) in
    let nothing : None ≡ refused (elaborated all top) = sym (ap (option_map answer) c.in-None.is) ∙ c.in_ok-placements.ensures.told in
    let new = c.move_placements.new.placements in
    let moved = moved_back numbers c.deref-in-None.result.now c.deref.result.now c.deref_mut-in-None.result.now new c.deref_mut-in-None-2.result.now (drop (length new) c.in_ok-placements.field-0.placements.items) c.in_ok-placements.field-0.placements.len (c.deref_mut-in-None.ensures.value ∙ sym c.deref.ensures.value) c.deref-in-None.ensures.value c.in_ok-move_placements-in-None.ensures.moved (c.move_placements.auto.placements ∙ c.deref_mut-in-None.ensures.len) c.deref_mut-in-None-2.ensures.value in
    held_there all top (place_in numbers) (map placement c.deref.result.now) (map placement c.deref_mut-in-None-2.result.now) nothing come moved

pub design_of-requires : goal.design_of-requires
design_of-requires c =
    let all = library c.args.all in
    let top = c.args.top.now in
    let numbers = c.in_ok-files.files.items in
    let made = noted_parts c.in_ok-made_of-in-None.field-0 in
    let come : map placement c.deref.result.now ≡ placements 0 0 (visited all top) = cc (c.in_ok-placements.ensures.visited, c.deref.ensures.value) in
    let used = used_there all top c.deref.result.now c.in_ok-look_ups.look_ups.items c.deref-2.result.now numbers come c.in_ok-look_ups.ensures c.deref-2.ensures.value c.in_ok-files.ensures in
    let nothing : None ≡ refused (elaborated all top) = sym (ap (option_map answer) c.in-None.is) ∙ c.in_ok-placements.ensures.told in
    let new = c.move_placements.new.placements in
    let moved = moved_back numbers c.deref-in-None.result.now c.deref.result.now c.deref_mut-in-None.result.now new c.deref_mut-in-None-2.result.now (drop (length new) c.in_ok-placements.field-0.placements.items) c.in_ok-placements.field-0.placements.len (c.deref_mut-in-None.ensures.value ∙ sym c.deref.ensures.value) c.deref-in-None.ensures.value c.in_ok-move_placements-in-None.ensures.moved (c.move_placements.auto.placements ∙ c.deref_mut-in-None.ensures.len) c.deref_mut-in-None-2.ensures.value in
    elaborated_lawful (extract numbers all) top made
    (made_there all top numbers used (map placement c.deref.result.now) (map placement c.deref_mut-in-None-2.result.now) made nothing come moved c.in_ok-made_of-in-None.ensures)

pub returns-clause-used : goal.returns-clause-used
returns-clause-used c =
    let all = library c.args.all in
    let top = c.args.top.now in
    let come : map placement c.deref.result.now ≡ placements 0 0 (visited all top) = cc (c.in_ok-placements.ensures.visited, c.deref.ensures.value) in
    used_there all top c.deref.result.now c.in_ok-look_ups.look_ups.items c.deref-2.result.now c.in_ok-files.files.items come c.in_ok-look_ups.ensures c.deref-2.ensures.value c.in_ok-files.ensures

pub returns-clause-look_ups : goal.returns-clause-look_ups
returns-clause-look_ups c =
    let all = library c.args.all in
    let top = c.args.top.now in
    let numbers = c.in_ok-files.files.items in
    let found = c.in_ok-look_ups.look_ups.items in
    let come : map placement c.deref.result.now ≡ placements 0 0 (visited all top) = cc (c.in_ok-placements.ensures.visited, c.deref.ensures.value) in
    let used = used_there all top c.deref.result.now found c.deref-2.result.now numbers come c.in_ok-look_ups.ensures c.deref-2.ensures.value c.in_ok-files.ensures in
    let are = all_look_ups all top found numbers (looked_up_same all top numbers used) (all_found all top c.deref.result.now found come c.in_ok-look_ups.ensures) in
    let new = c.move_look_ups.new.look_ups in
    let shown : take c.in_ok-look_ups.look_ups.len (new ++ drop (length new) found) ≡ map (moved_look_up (place_in numbers)) found
    = take_at new (drop (length new) found) c.in_ok-look_ups.look_ups.len (c.move_look_ups.auto.look_ups ∙ c.deref_mut.ensures.len)
    ∙ c.move_look_ups.ensures
    ∙ ap (λ (all_numbers : List ℕ). map (moved_look_up (place_in all_numbers)) c.deref_mut.result.now) c.deref-3.ensures.value
    ∙ ap (map (moved_look_up (place_in numbers))) c.deref_mut.ensures.value in
    subst (AreLookUps (extract numbers all) top) (sym shown) are

pub returns-clause-design : goal.returns-clause-design
returns-clause-design c =
    let all = library c.args.all in
    let top = c.args.top.now in
    let numbers = c.in_ok-files.files.items in
    let come : map placement c.deref.result.now ≡ placements 0 0 (visited all top) = cc (c.in_ok-placements.ensures.visited, c.deref.ensures.value) in
    let used = used_there all top c.deref.result.now c.in_ok-look_ups.look_ups.items c.deref-2.result.now numbers come c.in_ok-look_ups.ensures c.deref-2.ensures.value c.in_ok-files.ensures in
    let there = elaborated (extract numbers all) top in
    elim c.match-fault-5.branch as (λ _. IsElaborated there c.match-fault-5.design) [
      | in-Some+in_ok-moved_fault-in-Some w ↦
          let told : Some (answer w.in-Some.fault) ≡ refused (elaborated all top) = sym (ap (option_map answer) w.in-Some.is) ∙ c.in_ok-placements.ensures.told in
          let so : answer w.in_ok-moved_fault-in-Some.field-0 ≡ moved_answer (place_in numbers) (answer w.in-Some.fault)
          = w.in_ok-moved_fault-in-Some.ensures ∙ ap (λ (some : List ℕ). moved_answer (place_in some) (answer w.in-Some.fault)) w.deref-in-Some.ensures.value in
          subst (IsElaborated there) (sym w.design-is) (refused_there all top numbers used (answer w.in-Some.fault) (answer w.in_ok-moved_fault-in-Some.field-0) told so)
      | in-None+in_ok-move_placements-in-None+in_ok-made_of-in-None w ↦
          let nothing : None ≡ refused (elaborated all top) = sym (ap (option_map answer) w.in-None.is) ∙ c.in_ok-placements.ensures.told in
          let new = w.move_placements.new.placements in
          let made = noted_parts w.in_ok-made_of-in-None.field-0 in
          let moved = moved_back numbers w.deref-in-None.result.now c.deref.result.now w.deref_mut-in-None.result.now new w.deref_mut-in-None-2.result.now (drop (length new) c.in_ok-placements.field-0.placements.items) c.in_ok-placements.field-0.placements.len (w.deref_mut-in-None.ensures.value ∙ sym c.deref.ensures.value) w.deref-in-None.ensures.value w.in_ok-move_placements-in-None.ensures.moved (w.move_placements.auto.placements ∙ w.deref_mut-in-None.ensures.len) w.deref_mut-in-None-2.ensures.value in
          subst (IsElaborated there) (sym w.design-is)
          (made_there all top numbers used (map placement c.deref.result.now) (map placement w.deref_mut-in-None-2.result.now) made nothing come moved w.in_ok-made_of-in-None.ensures
          ∙ ap (λ (m : DesignParts). Ok m) (sym w.design_of.ensures))
    ]
