use Rattle.rank_set.proofs.Bits.{clear_same, clear_other}
use Rattle.rank_set.proofs.words.clear_bit.Goals as goal

pub returns-clause-bit : goal.returns-clause-bit
returns-clause-bit c = clear_same c.args.words.now c.args.place c.requires

pub returns-clause-other_bits : goal.returns-clause-other_bits
returns-clause-other_bits c = λ k ne. clear_other c.args.words.now c.args.place k c.requires ne
