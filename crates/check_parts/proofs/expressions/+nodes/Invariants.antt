use Rattle.std.proofs.Common.{◌≡◌, ◌++◌, map, drop}
use Rattle.rtl_flat.specs.Expression.{beside, tree}
use Rattle.rtl_rule.specs.Parts.{nodes}
use Rattle.check_parts.specs.Kept.{expressions}
use Rattle.check_parts.proofs.expressions.+nodes.Given as goal

abbrev pub invariant-push_row-loop-part : goal.invariant-push_row-loop-part
invariant-push_row-loop-part l =
    expressions l.found.items ++ nodes (beside (map tree (drop l.part-index l.parts)))
    ≡ expressions l.fn.found.items ++ nodes (beside (map tree l.parts))
