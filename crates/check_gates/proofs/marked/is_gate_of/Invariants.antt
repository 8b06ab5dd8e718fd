use Rattle.std.proofs.Common.{ℕ, ◌≤◌, ◌-◌, length}
use Rattle.check_gates.specs.Admitted.{AreInOrder, gates_of}
use Rattle.check_gates.specs.Latches.{IsPlaceOf}
use Rattle.check_gates.proofs.Placed.{IsPassed}
use Rattle.check_gates.proofs.marked.is_gate_of.Given as goal

abbrev pub invariant-loop-place : goal.invariant-loop-place
invariant-loop-place l =
    (l.place ≤ length l.gates) × (AreInOrder (gates_of l.gates) → (start : ℕ) × (start ≤ l.place) × IsPlaceOf l.gates l.process.0 start × IsPassed l.gates l.process.0 l.signal.0 l.place)

abbrev pub decreases-loop-place : goal.decreases-loop-place
decreases-loop-place l = length l.gates - l.place
