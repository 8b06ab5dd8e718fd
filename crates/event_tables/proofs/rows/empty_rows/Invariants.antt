use Rattle.std.proofs.Common.{ℕ, ◌≡◌, [], length}
use Rattle.event_write.specs.QueueState.{row}
use Rattle.event_tables.proofs.rows.empty_rows.Given as goal

abbrev pub invariant-loop : goal.invariant-loop
invariant-loop g l = (length l.rows.items ≡ l.counter) × ((i : ℕ) → row l.rows.items i ≡ [])
