use Rattle.std.proofs.Common.{◌≡◌, ◌++◌, map, drop}
use Rattle.rtl_flat.specs.Expression.{tree}
use Rattle.check_parts.specs.Kept.{expressions}
use Rattle.check_parts.proofs.expressions.push_exprs.Given as goal

abbrev pub invariant-loop-e : goal.invariant-loop-e
invariant-loop-e l =
    expressions l.found.items ++ map tree (drop l.e-index l.all) ≡ expressions l.fn.found.items ++ map tree l.all
