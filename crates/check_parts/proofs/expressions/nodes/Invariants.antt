use Rattle.std.proofs.Common.{◌≡◌, ◌++◌, drop}
use Rattle.std.specs.List.{flat_map}
use Rattle.rtl_rule.specs.Parts.{nodes}
use Rattle.check_parts.specs.Kept.{expressions}
use Rattle.check_parts.proofs.expressions.nodes.Given as goal

abbrev pub invariant-loop-e : goal.invariant-loop-e
invariant-loop-e l =
    expressions l.found.items ++ flat_map nodes (expressions (drop l.e-index l.all)) ≡ flat_map nodes (expressions l.all)
