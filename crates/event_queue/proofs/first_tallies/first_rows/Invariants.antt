use Rattle.std.proofs.Common.{ℕ, ◌≡◌, ◌≤◌, length, replicate}
use Rattle.rtl_bits.specs.declared.Bit.TheVariants.{Z}
use Rattle.rtl_flat.specs.Signs.{width_in}
use Rattle.event_tables.specs.event_tally.Tallies.{IsTalliedAt}
use Rattle.event_tables.specs.event_write.QueueState.{row}
use Rattle.event_queue.proofs.first_tallies.first_rows.Given as goal

abbrev pub invariant-loop-number : goal.invariant-loop-number
invariant-loop-number l =
    (length l.rows.items ≡ l.number)
    × ((i : ℕ) → length (row l.rows.items i) ≤ width_in l.design.signals.items i)
    × ((i k n : ℕ) → IsTalliedAt (row l.rows.items i) k (replicate n Z))
