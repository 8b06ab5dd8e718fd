use Rattle.std.proofs.Common.{◌≡◌, ℕ, ◌<◌, length, get_or}
use Rattle.agenda.proofs.ranking.ranks_of.Given as goal

abbrev pub invariant-loop-rank : goal.invariant-loop-rank
invariant-loop-rank l =
    (length l.ranks.items ≡ length l.numbers) × ((r : ℕ) → r < l.rank → get_or l.ranks.items (get_or l.numbers r 0) 0 ≡ r)
