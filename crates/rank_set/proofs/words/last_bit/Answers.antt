use Rattle.std.proofs.Common.{rules}
use Rattle.rank_set.proofs.Bits.{none_in_zeros}
use Rattle.rank_set.proofs.words.last_bit.Goals as goal

pub returns-in_err-number : goal.returns-in_err-number
returns-in_err-number c = rw c.from_residual.ensures (none_in_zeros c.args.words.now (search rules))
