use Rattle.std.proofs.Common.{◌∙◌, ap, sym}
use Rattle.rtl_bits.specs.Bit.{is_one}
use Rattle.rtl_bits.specs.Digits.{one_at-zero, one_at_ones}
use Rattle.net_model.specs.Numbers.{fill_bit}
use Rattle.net_start.proofs.start.fill_digits.Goals as goal

pub returns-in-Zero : goal.returns-in-Zero
returns-in-Zero c = λ k below. one_at-zero k ∙ sym (ap (λ f. is_one (fill_bit f)) c.in-Zero.is)

pub returns-in-One : goal.returns-in-One
returns-in-One c = λ k below.
    one_at_ones 128 k below ∙ sym (ap (λ f. is_one (fill_bit f)) c.in-One.is)
