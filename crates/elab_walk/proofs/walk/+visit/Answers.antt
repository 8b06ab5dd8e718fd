use Rattle.std.specs.Prelude.{◌-◌, IfSome, Option, Some, length}
use Rattle.std.specs.List.{flat_map, slice_get}
use Rattle.std.proofs.Common.{◌<◌, ◌≡◌, ◌∙◌, List, ap, arith, map, refl, subst, sym}
use Rattle.std.proofs.lemmas.List.{length-map}
use Rattle.std.proofs.lemmas.Result.{err_from_is_err_and}
use Rattle.rtl_tree.specs.declared.tree.item.Instance.{Instance}
use Rattle.rtl_tree.specs.declared.tree.item.Item.{Item}
use Rattle.rtl_tree.specs.TreeItem.{module_item, instantiation}
use Rattle.elab_links.specs.elab_items.declared.roster.Roster.{Roster}
use Rattle.elab_links.specs.elab_scope.Faults.{answer}
use Rattle.elab_links.specs.Groups.{group_of}
use Rattle.elab_walk.specs.Placements.{Placement}
use Rattle.elab_walk.specs.Trails.{Going, Gone, IsDeclared, IsStopped, extended, followed, placement, trail}
use Rattle.elab_walk.specs.Visits.{Holder, Visit, child_of, children, holder, item_children, library, placed_children, visit, visits}
use Rattle.elab_walk.proofs.Ending.{own_placement}
use Rattle.elab_walk.proofs.Keeping.{stays}
use Rattle.elab_walk.proofs.Rows.{more_gone, more_stopped}
use Rattle.elab_walk.proofs.Telling.{gone_with, stopped_there}
use Rattle.elab_walk.proofs.walk.+visit.Goals as goal

pub visit_items-loop-item-preserved : goal.visit_items-loop-item-preserved
visit_items-loop-item-preserved t c =
    let all = library c.args.all in
    let within = holder c.args.within.now in
    let row : List Item → List Visit = λ items. children all within (map module_item items) in
    let own : Item → List Visit = λ item. item_children all within (module_item item) in
    record {
      went = more_gone all c.args.levels row own (λ item items. refl) (Going (trail c.loop-item.so_far)) (Going (trail c.visit_item.new.so_far)) c.args.items.now c.loop-item.item-index c.item-item.result _ c.loop-item-test.true c.item-item.is c.in_ok-visit_item.ensures.went c.loop-item.invariant.went;
      declared = λ all_before. c.in_ok-visit_item.ensures.declared (c.loop-item.invariant.declared all_before);
    }

pub visit_items-returns-in_err-visit_item-clause-went : goal.visit_items-returns-in_err-visit_item-clause-went
visit_items-returns-in_err-visit_item-clause-went t c =
    let all = library c.args.all in
    let within = holder c.args.within.now in
    let row : List Item → List Visit = λ items. children all within (map module_item items) in
    let own : Item → List Visit = λ item. item_children all within (module_item item) in
    let p = err_from_is_err_and c.from_residual.result c.from_residual.ensures.1 in
    rw (p.1, p.2) (more_stopped all c.args.levels row own (λ item items. refl) (answer c.in_err-visit_item.field-0.0) (trail c.visit_item.new.so_far) (Going (trail c.loop-item.so_far)) c.args.items.now c.loop-item.item-index c.item-item.result _ c.loop-item-test.true c.item-item.is c.in_err-visit_item.ensures.went c.loop-item.invariant.went)

pub visit_instantiations-loop-instance-preserved : goal.visit_instantiations-loop-instance-preserved
visit_instantiations-loop-instance-preserved t c =
    let all = library c.args.all in
    let within = holder c.args.within.now in
    let made = group_of all.lookups all.files within.scope (module_item c.args.item.now) in
    let row : List Instance → List Visit = λ instances. placed_children within c.args.at made (map instantiation instances) in
    let own : Instance → List Visit = λ instance. child_of within c.args.at instance.name.text made in
    record {
      went = more_gone all c.args.levels row own (λ instance instances. refl) (Going (trail c.loop-instance.so_far)) (Going (trail c.visit_instantiation.new.so_far)) c.args.instances.now c.loop-instance.instance-index c.instance-item.result _ c.loop-instance-test.true c.instance-item.is c.in_ok-visit_instantiation.ensures.went c.loop-instance.invariant.went;
      declared = λ all_before. c.in_ok-visit_instantiation.ensures.declared (c.loop-instance.invariant.declared all_before);
    }

pub visit_instantiations-returns-in_err-visit_instantiation-clause-went : goal.visit_instantiations-returns-in_err-visit_instantiation-clause-went
visit_instantiations-returns-in_err-visit_instantiation-clause-went t c =
    let all = library c.args.all in
    let within = holder c.args.within.now in
    let made = group_of all.lookups all.files within.scope (module_item c.args.item.now) in
    let row : List Instance → List Visit = λ instances. placed_children within c.args.at made (map instantiation instances) in
    let own : Instance → List Visit = λ instance. child_of within c.args.at instance.name.text made in
    let p = err_from_is_err_and c.from_residual.result c.from_residual.ensures.1 in
    rw (p.1, p.2) (more_stopped all c.args.levels row own (λ instance instances. refl) (answer c.in_err-visit_instantiation.field-0.0) (trail c.visit_instantiation.new.so_far) (Going (trail c.loop-instance.so_far)) c.args.instances.now c.loop-instance.instance-index c.instance-item.result _ c.loop-instance-test.true c.instance-item.is c.in_err-visit_instantiation.ensures.went c.loop-instance.invariant.went)

pub visit-returns-in_ok-follow-in-Err-clause-went : goal.visit-returns-in_ok-follow-in-Err-clause-went
visit-returns-in_ok-follow-in-Err-clause-went t c =
    stopped_there (library c.args.all) c.args.levels (answer c.in-Err.error) (trail c.args.so_far.now) (trail c.follow.new.self) (visit c.args.met) (omega arith) c.in_ok-follow-in-Err.ensures.followed c.in-Err.ensures.told

pub visit-returns-in_err-visit_items-in-Ok-clause-went : goal.visit-returns-in_err-visit_items-in-Ok-clause-went
visit-returns-in_err-visit_items-in-Ok-clause-went t c =
    let all = library c.args.all in
    let before = trail c.args.so_far.now in
    let v = visit c.args.met in
    let some : 0 < c.args.levels = omega arith in
    let after : trail c.follow-in-Ok.new.self ≡ extended all before v =
    c.in_ok-follow-in-Ok.ensures.followed ∙ ap (followed before v) c.in-Ok.ensures.room in
    let same = gone_with all c.args.levels before (trail c.follow-in-Ok.new.self) v (holder c.in_ok-holder-in-Ok.holder) (map module_item c.as_slice-items.result.now) some c.in-Ok.ensures.nothing after c.in_ok-holder-in-Ok.ensures (ap (map module_item) c.as_slice-items.ensures.value) in
    let p = err_from_is_err_and c.from_residual-in_err-visit_items-in-Ok.result c.from_residual-in_err-visit_items-in-Ok.ensures.1 in
    rw (p.1, p.2) (subst (λ (g : Gone). IsStopped (answer c.in_err-visit_items-in-Ok.field-0.0) (trail c.visit_items.new.so_far) g) (sym same) c.in_err-visit_items-in-Ok.ensures.went)

pub visit-keep-requires : goal.visit-keep-requires
visit-keep-requires t c =
    let all = library c.args.all in
    let before = trail c.args.so_far.now in
    let v = visit c.args.met in
    let declared : Roster = record { names = c.in_ok-holder-in-Ok.holder.names; signals = c.in-Ok.left.signals } in
    let below : List Visit = flat_map (visits all (c.args.levels - 1)) (children all (holder c.in_ok-holder-in-Ok.holder) (map module_item c.as_slice-items.result.now)) in
    let place : c.len-place.result ≡ length before.placements =
    c.len-place.ensures ∙ c.args.so_far.now.placements.ok.0 ∙ sym (length-map c.args.so_far.now.placements.items placement) in
    let there : slice_get (trail c.visit_items.new.so_far).placements c.len-place.result ≡ Some (own_placement before v) =
    ap (slice_get (trail c.visit_items.new.so_far).placements) place
    ∙ stays all before (trail c.follow-in-Ok.new.self) (trail c.visit_items.new.so_far) v c.in-Ok.left.room below c.in_ok-follow-in-Ok.ensures.followed c.in_ok-visit_items-in-Ok.ensures.went in
    subst (λ (o : Option Placement). IfSome o (λ at. IsDeclared at.visit declared)) (sym there) (ap (λ (h : Holder). h.scope) c.in_ok-holder-in-Ok.ensures, c.in-Ok.ensures.signals)

pub visit-returns-in_ok-visit_items-in-Ok-clause-went : goal.visit-returns-in_ok-visit_items-in-Ok-clause-went
visit-returns-in_ok-visit_items-in-Ok-clause-went t c =
    let all = library c.args.all in
    let before = trail c.args.so_far.now in
    let v = visit c.args.met in
    let some : 0 < c.args.levels = omega arith in
    let after : trail c.follow-in-Ok.new.self ≡ extended all before v =
    c.in_ok-follow-in-Ok.ensures.followed ∙ ap (followed before v) c.in-Ok.ensures.room in
    let same = gone_with all c.args.levels before (trail c.follow-in-Ok.new.self) v (holder c.in_ok-holder-in-Ok.holder) (map module_item c.as_slice-items.result.now) some c.in-Ok.ensures.nothing after c.in_ok-holder-in-Ok.ensures (ap (map module_item) c.as_slice-items.ensures.value) in
    same ∙ c.in_ok-visit_items-in-Ok.ensures.went ∙ ap Going (sym c.keep.ensures.same)

pub visit-returns-in_ok-visit_items-in-Ok-clause-declared : goal.visit-returns-in_ok-visit_items-in-Ok-clause-declared
visit-returns-in_ok-visit_items-in-Ok-clause-declared t c = λ all.
    c.keep.ensures.declared (c.in_ok-visit_items-in-Ok.ensures.declared (c.in_ok-follow-in-Ok.ensures.declared all))
