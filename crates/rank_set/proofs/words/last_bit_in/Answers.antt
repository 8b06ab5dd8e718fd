use Rattle.rank_set.proofs.Bits.{last_bit_is}
use Rattle.rank_set.proofs.words.last_bit_in.Goals as goal

pub returns : goal.returns
returns c = last_bit_is c.args.words.now c.args.number c.requires.some (c.type_inv.words c.args.number).fits c.requires.after
