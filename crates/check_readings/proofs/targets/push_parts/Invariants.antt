use Rattle.std.proofs.Common.{◌≡◌, ◌++◌, map, drop}
use Rattle.rtl_flat.specs.Process.{piece}
use Rattle.check_parts.specs.Kept.{targets}
use Rattle.check_readings.proofs.targets.push_parts.Given as goal

abbrev pub invariant-loop-part : goal.invariant-loop-part
invariant-loop-part l =
    targets l.found.items ++ map piece (drop l.part-index l.parts)
    ≡ targets l.fn.found.items ++ map piece l.parts
