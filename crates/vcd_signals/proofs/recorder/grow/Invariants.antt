use Rattle.std.proofs.Common.{ℕ, ◌≡◌, ◌+◌, ◌-◌, length}
use Rattle.vcd_signals.specs.Recording.{row}
use Rattle.vcd_signals.proofs.recorder.grow.Given as goal

abbrev pub invariant-loop-alloc : goal.invariant-loop-alloc
invariant-loop-alloc l = (code : ℕ) → row l.table.items code ≡ row l.fn.table.items code

abbrev pub decreases-loop-alloc : goal.decreases-loop-alloc
decreases-loop-alloc l = (l.place + 1) - length l.table.items
