use Rattle.rtl_bits.specs.Digits.{one_at-zero}
use Rattle.net_body.proofs.mark.Mark.fresh.Goals as goal

pub returns-clause-wrote : goal.returns-clause-wrote
returns-clause-wrote c = one_at-zero

pub returns-clause-late : goal.returns-clause-late
returns-clause-late c = one_at-zero
