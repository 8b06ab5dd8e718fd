use Rattle.std.proofs.Common.{ℕ, [], ◌≡◌, length}
use Rattle.check_unknown.specs.Spreading.{bucket}
use Rattle.check_unknown.proofs.doubt.no_readers.Given as goal

abbrev pub invariant-loop : goal.invariant-loop
invariant-loop l =
    (length l.table.items ≡ l.counter) × ((s : ℕ) → bucket l.table.items s ≡ [])
