use Rattle.std.proofs.Common.{◌+◌, ◌-◌, length}
use Rattle.check_gates.specs.Reach.{unmarked}
use Rattle.check_gates.proofs.Reached.{IsSearched}
use Rattle.check_gates.proofs.reach.reached.Given as goal

abbrev pub invariant-loop-next : goal.invariant-loop-next
invariant-loop-next l = IsSearched l.rows l.start l.next l.reach

abbrev pub decreases-loop-next : goal.decreases-loop-next
decreases-loop-next l =
    (unmarked l.reach.seen.items + length l.reach.found.items) - l.next
