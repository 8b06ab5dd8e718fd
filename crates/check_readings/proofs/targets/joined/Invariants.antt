use Rattle.std.proofs.Common.{◌≡◌, ◌++◌, drop}
use Rattle.std.specs.List.{flat_map}
use Rattle.check_parts.specs.Kept.{actions, targets}
use Rattle.check_readings.specs.Readings.{own_joined}
use Rattle.check_readings.proofs.targets.joined.Given as goal

abbrev pub invariant-loop-one : goal.invariant-loop-one
invariant-loop-one l =
    targets l.found.items ++ flat_map own_joined (actions (drop l.one-index l.one-items))
    ≡ flat_map own_joined (actions l.one-items)
