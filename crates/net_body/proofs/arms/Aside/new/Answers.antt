use Rattle.std.proofs.Common.{◌∙◌, replicate, ap}
use Rattle.rtl_bits.specs.declared.Bit.TheVariants.{Zero}
use Rattle.rtl_bits.specs.Digits.{one_at-zero}
use Rattle.net_body.proofs.arms.Aside.new.Goals as goal

pub returns-clause-sum : goal.returns-clause-sum
returns-clause-sum c = c.filled.ensures.bits ∙ ap (λ n. replicate n Zero) c.width.ensures.exact

pub returns-clause-wrote : goal.returns-clause-wrote
returns-clause-wrote c = one_at-zero

pub returns-clause-late : goal.returns-clause-late
returns-clause-late c = one_at-zero
