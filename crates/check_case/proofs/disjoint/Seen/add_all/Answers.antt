use Rattle.std.proofs.Common.{◌+◌, ◌∙◌, ◌||◌, ap, sym, not, drop, map, List}
use Rattle.std.specs.List.{list_any}
use Rattle.rtl_flat.specs.declared.expr.SizedExpr.{SizedExpr}
use Rattle.rtl_flat.specs.Expression.{Tree, tree}
use Rattle.rtl_flat.specs.Flows.{literal}
use Rattle.check_parts.proofs.rtl_scan_proofs.Bools.{or_assoc}
use Rattle.check_parts.proofs.rtl_scan_proofs.Labels.{left_at}
use Rattle.check_case.specs.Cases.{some_differ}
use Rattle.check_case.specs.Literals.{overlap_in}
use Rattle.check_case.proofs.disjoint.Seen.add_all.Goals as goal

pub loop-label-preserved : goal.loop-label-preserved
loop-label-preserved c = λ y.
    let old = c.loop-label.self in
    let labels = c.args.labels.now in
    let i = c.loop-label.label-index in
    let label = c.label-item.result in
    let f = λ (other : Tree). not (some_differ (literal other) y) in
    let rest = list_any f (map tree (drop (i + 1) labels)) in
    ap (λ b. b || rest) (c.in_ok-add.ensures.at y) ∙ or_assoc (overlap_in old y) (f (tree label)) rest
    ∙ ap (λ (xs : List SizedExpr). overlap_in old y || list_any f (map tree xs)) (sym (left_at labels i label c.loop-label-test.true c.label-item.is))
    ∙ c.loop-label.invariant y
