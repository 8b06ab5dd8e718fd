use Rattle.std.proofs.Common.{◌≡◌, ◌+◌, ◌∷◌, []}
use Rattle.rank_set.specs.Ranks.{members}
use Rattle.rank_set.specs.Words.{flags_of}
use Rattle.rank_set.proofs.words.nth_of.Given as goal

abbrev pub invariant-loop-place : goal.invariant-loop-place
invariant-loop-place l = members (flags_of (l.word ∷ []) l.place) + l.left ≡ l.n
