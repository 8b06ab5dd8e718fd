use Rattle.std.proofs.Common.{◌≤◌, ◌-◌, length}
use Rattle.check_gates.specs.Admitted.{AreInOrder, gates_of}
use Rattle.check_gates.proofs.Placed.{IsBetween}
use Rattle.check_gates.proofs.marked.place_of.Given as goal

abbrev pub invariant-loop-low : goal.invariant-loop-low
invariant-loop-low l =
    (l.low ≤ l.high) × (l.high ≤ length l.gates) × (AreInOrder (gates_of l.gates) → IsBetween l.gates l.process l.low l.high)

abbrev pub decreases-loop-low : goal.decreases-loop-low
decreases-loop-low l = l.high - l.low
