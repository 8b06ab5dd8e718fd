use Rattle.std.proofs.Common.{Some, None, cond, get_or, ap}
use Rattle.rtl_bits.specs.declared.Bit.TheVariants.{X}
use Rattle.rtl_bits.specs.Digits.{one_at-zero}
use Rattle.net_body.proofs.mark.Mark.clear.Goals as goal

pub returns-clause-next : goal.returns-clause-next
returns-clause-next c = λ k. ap (λ b. cond b (Some (get_or c.args.number k X)) None) (one_at-zero k)

pub returns-clause-has_next : goal.returns-clause-has_next
returns-clause-has_next c = one_at-zero

pub returns-clause-wrote : goal.returns-clause-wrote
returns-clause-wrote c = one_at-zero

pub returns-clause-late : goal.returns-clause-late
returns-clause-late c = one_at-zero
