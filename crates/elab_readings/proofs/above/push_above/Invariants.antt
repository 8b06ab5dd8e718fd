use Rattle.std.proofs.Common.{◌≡◌, ◌≤◌, ◌++◌, length, map, drop}
use Rattle.elab_readings.specs.Readings.{above_of}
use Rattle.elab_readings.specs.Views.{below, holder, waiting}
use Rattle.elab_readings.proofs.above.push_above.Given as goal

abbrev pub invariant-loop-left : goal.invariant-loop-left
invariant-loop-left l = record {
  inside : l.left ≤ length l.held;
  waits : waiting l.pending.items ≡ map (above_of (holder l.shared.value)) (map below (drop l.left l.held)) ++ waiting l.initial.pending.items;
}

abbrev pub decreases-loop-left : goal.decreases-loop-left
decreases-loop-left l = l.left
