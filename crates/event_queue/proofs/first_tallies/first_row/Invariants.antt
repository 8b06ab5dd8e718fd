use Rattle.std.proofs.Common.{ℕ, ◌≡◌, length, replicate}
use Rattle.rtl_bits.specs.declared.Bit.TheVariants.{Z}
use Rattle.event_tables.specs.event_tally.Tallies.{IsTalliedAt}
use Rattle.event_queue.proofs.first_tallies.first_row.Given as goal

abbrev pub invariant-loop : goal.invariant-loop
invariant-loop l =
    (length l.row.items ≡ l.counter)
    × ((k n : ℕ) → IsTalliedAt l.row.items k (replicate n Z))
