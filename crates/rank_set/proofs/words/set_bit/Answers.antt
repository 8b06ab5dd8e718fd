use Rattle.rank_set.proofs.Bits.{set_same, set_other}
use Rattle.rank_set.proofs.words.set_bit.Goals as goal

pub returns-clause-bit : goal.returns-clause-bit
returns-clause-bit c = set_same c.args.words.now c.args.place c.requires

pub returns-clause-other_bits : goal.returns-clause-other_bits
returns-clause-other_bits c = λ k ne. set_other c.args.words.now c.args.place k c.requires ne
