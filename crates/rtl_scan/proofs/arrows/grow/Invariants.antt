use Rattle.std.proofs.Common.{ℕ, ◌≡◌, ◌≤◌, ◌+◌, ◌-◌, max, length}
use Rattle.rtl_scan.specs.Arrows.{bucket}
use Rattle.rtl_scan.proofs.arrows.grow.Given as goal

abbrev pub invariant-loop-alloc : goal.invariant-loop-alloc
invariant-loop-alloc l =
    (max (length l.table.items) (l.place + 1) ≡ max (length l.fn.table.items) (l.place + 1)) × (length l.fn.table.items ≤ length l.table.items) × ((b : ℕ) → bucket l.table.items b ≡ bucket l.fn.table.items b)

abbrev pub decreases-loop-alloc : goal.decreases-loop-alloc
decreases-loop-alloc l = (l.place + 1) - length l.table.items
