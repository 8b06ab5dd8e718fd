use Rattle.std.proofs.Common.{◌≡◌, ◌++◌, not, drop}
use Rattle.std.specs.List.{filter}
use Rattle.rtl_flat.specs.Process.{doing}
use Rattle.rtl_rule.specs.Parts.{is_one_literal, trees}
use Rattle.check_parts.specs.Kept.{expressions}
use Rattle.check_parts.proofs.expressions.valued_trees.Given as goal

abbrev pub invariant-loop-label : goal.invariant-loop-label
invariant-loop-label l =
    expressions l.found.items ++ filter (λ label. not (is_one_literal label)) (expressions (drop l.label-index l.label-items))
    ≡ trees (doing l.does) ++ filter (λ label. not (is_one_literal label)) (expressions l.label-items)
