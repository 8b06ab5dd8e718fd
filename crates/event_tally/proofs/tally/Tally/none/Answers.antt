use Rattle.std.proofs.Common.{sym}
use Rattle.rtl_bits.specs.declared.Bit.TheVariants.{Zero, One, X}
use Rattle.event_tally.proofs.Tallying.{times_of_z}
use Rattle.event_tally.proofs.tally.Tally.none.Goals as goal

pub returns : goal.returns
returns c n = record { zeros = sym (times_of_z Zero n cc); ones = sym (times_of_z One n cc); unknowns = sym (times_of_z X n cc) }
