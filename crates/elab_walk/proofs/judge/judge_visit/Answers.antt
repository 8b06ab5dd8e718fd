use Rattle.std.specs.Option.{option_map}
use Rattle.std.proofs.Common.{◌∙◌, ◌≡◌, ℕ, List, Option, Some, ap, arith, false, length, map, sym}
use Rattle.std.proofs.lemmas.List.{length-map}
use Rattle.rtl_tree.specs.TreeItem.{module_item}
use Rattle.elab_links.specs.elab_scope.Faults.{Refusal, after, least, refusal}
use Rattle.elab_parts.specs.elab_body.Courses.{course}
use Rattle.elab_parts.specs.elab_body.Steps.{Course, passed}
use Rattle.elab_links.specs.elab_items.Rosters.{listing}
use Rattle.elab_links.specs.elab_items.Scopes.{declaration_faults, listings_of}
use Rattle.elab_walk.specs.declared.places.Seek.TheVariants as seek
use Rattle.elab_walk.specs.Leavings.{behind}
use Rattle.elab_walk.specs.Refusals.{own_faults}
use Rattle.elab_walk.specs.Rooms.{place_of, process_places, sought_on, surplus, visit_steps}
use Rattle.elab_walk.specs.Visits.{library, visit}
use Rattle.elab_walk.proofs.Leaving.{leaves, same_steps, told}
use Rattle.elab_walk.proofs.judge.judge_visit.Goals as goal

pub returns-clause-told : goal.returns-clause-told
returns-clause-told c =
    let all = library c.args.all in
    let v = visit c.args.met.now in
    let first = option_map refusal c.in_ok-declared.declared.best in
    let is_first : first ≡ least (declaration_faults v.settings c.args.room.base v.circuit) =
    c.in_ok-declared.ensures.best ∙ ap (λ b. least (declaration_faults v.settings b v.circuit)) c.from-base.ensures in
    let is_so_far : course c.in_ok-judged.judged ≡ passed (record { best = first; left = Some c.args.room.left; filled = false }) (visit_steps all v) =
    c.in_ok-judged.ensures.told ∙ ap (passed (record { best = first; left = Some c.args.room.left; filled = false })) (same_steps all _ _ _ _ _ _ (ap (map (λ text. text.now)) c.as_slice-way.ensures.value) c.in_ok-declared.ensures.names (ap (map module_item) c.as_slice-items.ensures.value)) in
    let is_seek : c.seek_all-seek.result ≡ sought_on (seek.Left c.args.room.processes) (process_places v.circuit.items) =
    c.seek_all-seek.ensures ∙ ap (λ items. sought_on (seek.Left c.args.room.processes) (process_places (map module_item items))) c.as_slice-items.ensures.value in
    c.judge_surplus.ensures
    ∙ told all c.args.room v first (course c.in_ok-judged.judged) c.seek_all-seek.result is_first is_so_far is_seek

pub returns-clause-room : goal.returns-clause-room
returns-clause-room c = λ nothing.
    let all = library c.args.all in
    let v = visit c.args.met.now in
    let first = option_map refusal c.in_ok-declared.declared.best in
    let is_first : first ≡ least (declaration_faults v.settings c.args.room.base v.circuit) =
    c.in_ok-declared.ensures.best ∙ ap (λ b. least (declaration_faults v.settings b v.circuit)) c.from-base.ensures in
    let is_so_far : course c.in_ok-judged.judged ≡ passed (record { best = first; left = Some c.args.room.left; filled = false }) (visit_steps all v) =
    c.in_ok-judged.ensures.told ∙ ap (passed (record { best = first; left = Some c.args.room.left; filled = false })) (same_steps all _ _ _ _ _ _ (ap (map (λ text. text.now)) c.as_slice-way.ensures.value) c.in_ok-declared.ensures.names (ap (map module_item) c.as_slice-items.ensures.value)) in
    let is_seek : c.seek_all-seek.result ≡ sought_on (seek.Left c.args.room.processes) (process_places v.circuit.items) =
    c.seek_all-seek.ensures ∙ ap (λ items. sought_on (seek.Left c.args.room.processes) (process_places (map module_item items))) c.as_slice-items.ensures.value in
    let is_told : after (course c.in_ok-judged.judged).best (surplus (place_of c.seek_all-seek.result)) ≡ least (own_faults all c.args.room v) =
    told all c.args.room v first (course c.in_ok-judged.judged) c.seek_all-seek.result is_first is_so_far is_seek in
    let count : length c.as_slice-listed.result.now ≡ length (listings_of v.settings v.circuit) =
    ap length c.as_slice-listed.ensures.value ∙ sym (length-map c.in_ok-declared.declared.signals.items listing) ∙ ap length c.in_ok-declared.ensures.signals in
    c.behind.ensures
    ∙ ap (λ n. behind c.args.room n (course c.in_ok-judged.judged).left c.seek_all-seek.result c.spare_extras-spare.result) count
    ∙ leaves all c.args.room v first (course c.in_ok-judged.judged) c.seek_all-seek.result c.spare_extras-spare.result (omega arith) c.spare_extras-spare.ensures is_so_far is_seek (sym is_told ∙ sym c.judge_surplus.ensures ∙ nothing)
