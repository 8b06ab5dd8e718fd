use Rattle.std.proofs.Common.{◌≡◌, ◌++◌, map, drop}
use Rattle.rtl_flat.specs.Process.{piece}
use Rattle.rtl_rule.specs.Parts.{indices}
use Rattle.check_parts.specs.Kept.{expressions}
use Rattle.check_parts.proofs.expressions.push_indices.Given as goal

abbrev pub invariant-loop-part : goal.invariant-loop-part
invariant-loop-part l =
    expressions l.found.items ++ indices (map piece (drop l.part-index l.parts))
    ≡ expressions l.fn.found.items ++ indices (map piece l.parts)
