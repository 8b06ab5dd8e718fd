use Rattle.std.proofs.Common.{◌≡◌, ◌++◌, drop}
use Rattle.std.specs.List.{flat_map}
use Rattle.rtl_rule.specs.Parts.{index_of}
use Rattle.check_parts.specs.Kept.{expressions, targets}
use Rattle.check_readings.proofs.selects.push_written.Given as goal

abbrev pub invariant-loop-part : goal.invariant-loop-part
invariant-loop-part l =
    expressions l.found.items ++ flat_map (λ piece. index_of piece.selection) (targets (drop l.part-index l.parts))
    ≡ expressions l.fn.found.items ++ flat_map (λ piece. index_of piece.selection) (targets l.parts)
