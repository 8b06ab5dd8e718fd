use Rattle.std.proofs.Common.{◌≡◌, ◌++◌, map, take}
use Rattle.check_unknown.specs.Lists.{at_spot}
use Rattle.check_unknown.proofs.places.push_each.Given as goal

abbrev pub invariant-loop-spot : goal.invariant-loop-spot
invariant-loop-spot l =
    l.found.items ≡ l.initial.found.items ++ map (at_spot l.rule l.signal l.instance) (take l.spot-index l.spots)
