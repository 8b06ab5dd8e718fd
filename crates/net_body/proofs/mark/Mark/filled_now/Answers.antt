use Rattle.rtl_bits.specs.Digits.{one_at_or}
use Rattle.net_body.proofs.mark.Mark.filled_now.Goals as goal

pub returns-clause-wrote : goal.returns-clause-wrote
returns-clause-wrote c = λ k. one_at_or c.args.mask c.args.self.wrote k
