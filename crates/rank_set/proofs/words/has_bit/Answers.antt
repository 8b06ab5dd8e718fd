use Rattle.std.proofs.Common.{ap, eqb}
use Rattle.std.proofs.lemmas.Nat.Bits.{shr_and_one}
use Rattle.rank_set.specs.Words.{bit_flag, has}
use Rattle.rank_set.proofs.words.has_bit.Goals as goal

pub returns : goal.returns
unfolding has bit_flag
returns c = ap (λ b. eqb b 1) (shr_and_one _ _)
