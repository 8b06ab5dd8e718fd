use Rattle.std.proofs.Common.{◌≡◌, take}
use Rattle.check_unknown.specs.Lists.{regions}
use Rattle.check_unknown.proofs.dropped.regions.Given as goal

abbrev pub invariant-loop-one : goal.invariant-loop-one
invariant-loop-one l = l.found.items ≡ regions l.rule l.kind (take l.one-index l.dropped)
