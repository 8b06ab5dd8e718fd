use Rattle.std.proofs.Common.{◌≡◌, ◌++◌, drop}
use Rattle.std.specs.List.{flat_map}
use Rattle.rtl_rule.specs.Parts.{own_trees}
use Rattle.check_parts.specs.Kept.{actions, expressions}
use Rattle.check_parts.proofs.expressions.push_all_own.Given as goal

abbrev pub invariant-loop-one : goal.invariant-loop-one
invariant-loop-one l =
    expressions l.found.items ++ flat_map own_trees (actions (drop l.one-index l.all))
    ≡ expressions l.fn.found.items ++ flat_map own_trees (actions l.all)
