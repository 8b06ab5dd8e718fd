use Rattle.std.proofs.Common.{◌≡◌, ◌++◌, drop}
use Rattle.std.specs.List.{flat_map}
use Rattle.check_parts.specs.Kept.{expressions}
use Rattle.check_readings.specs.Readings.{own_amount}
use Rattle.check_readings.proofs.selects.push_amounts.Given as goal

abbrev pub invariant-loop-e : goal.invariant-loop-e
invariant-loop-e l =
    expressions l.found.items ++ flat_map own_amount (expressions (drop l.e-index l.all))
    ≡ expressions l.fn.found.items ++ flat_map own_amount (expressions l.all)
