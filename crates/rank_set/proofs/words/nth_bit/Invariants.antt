use Rattle.std.proofs.Common.{◌≡◌, ◌+◌, ◌*◌}
use Rattle.rank_set.specs.Ranks.{members}
use Rattle.rank_set.specs.Words.{flags_of}
use Rattle.rank_set.proofs.words.nth_bit.Given as goal

abbrev pub invariant-loop-number : goal.invariant-loop-number
invariant-loop-number l = members (flags_of l.words (64 * l.number)) + l.left ≡ l.n
