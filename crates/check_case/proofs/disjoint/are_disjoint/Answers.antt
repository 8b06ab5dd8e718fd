use Rattle.std.proofs.Common.{◌+◌, ◌∙◌, ◌&&◌, ap, sym, subst, not, drop, map, List}
use Rattle.rtl_flat.specs.declared.act.CaseItem.{CaseItem}
use Rattle.rtl_flat.specs.declared.expr.SizedExpr.{SizedExpr}
use Rattle.rtl_flat.specs.Expression.{tree}
use Rattle.rtl_flat.specs.Flows.{labels_of}
use Rattle.rtl_flat.specs.Process.{action, body_of}
use Rattle.check_parts.specs.rtl_scan.Bodies.{branches_of}
use Rattle.check_parts.proofs.rtl_scan_proofs.Labels.{left_at}
use Rattle.check_case.specs.Cases.{all_disjoint}
use Rattle.check_case.specs.Literals.{GetsAllSeen, overlap_some}
use Rattle.check_case.proofs.Apart.{disjoint_next, none_overlap, rest_disjoint}
use Rattle.check_case.proofs.disjoint.are_disjoint.Goals as goal

pub loop-item-init : goal.loop-item-init
loop-item-init c =
    let items = branches_of c.args.items.now in
    ap (λ b. not b && all_disjoint items) (none_overlap c.new-seen.result c.new-seen.ensures (labels_of items))

pub loop-item-preserved : goal.loop-item-preserved
loop-item-preserved c =
    let old = c.loop-item.seen in
    let new = c.add_all.new.self in
    let i = c.loop-item.item-index in
    let item = c.item-item.result in
    let labels = map tree item.labels.items in
    let apart = sym (c.overlaps_some.ensures ∙ ap (λ (xs : List SizedExpr). overlap_some old (map tree xs)) c.deref.ensures.value) ∙ c.if-overlaps_some.false in
    let more = subst (λ (xs : List SizedExpr). GetsAllSeen (map tree xs) old new) c.deref-in-loop-item.ensures.value c.in_ok-add_all.ensures in
    disjoint_next labels (body_of (map action item.body.items)) (branches_of (drop (i + 1) c.args.items.now)) old new apart more
    ∙ ap (λ (xs : List CaseItem). rest_disjoint old (branches_of xs)) (sym (left_at c.args.items.now i item c.loop-item-test.true c.item-item.is))
    ∙ c.loop-item.invariant
