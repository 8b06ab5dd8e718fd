use Rattle.std.proofs.Common.{◌∙◌, ◌≤◌, ◌^◌, ◌-◌, get_or, ap, arith}
use Rattle.rtl_bits.specs.declared.Bit.TheVariants.{X}
use Rattle.rtl_bits.specs.Bits.{bits_of}
use Rattle.rtl_bits.specs.Digits.{one_at_ones}
use Rattle.net_start.proofs.Masking.{masked_bit}
use Rattle.net_start.proofs.start.masked.Goals as goal

pub returns-clause-bits : goal.returns-clause-bits
returns-clause-bits c = λ k below.
    let value = c.args.value in
    let wide = c.width.ensures.exact in
    let few : c.width.result ≤ 128 = c.width.ensures.at_most in
    let spells = ap (λ w. bits_of w c.number.result) wide ∙ c.number.ensures.bits in
    ap (λ bits. get_or bits k X) c.of_number.ensures.bits
    ∙ masked_bit c.width.result c.args.mask c.number.result c.fill_digits.result (2 ^ 128 - 1) value c.args.fill spells few c.fill_digits.ensures
    (one_at_ones 128) k (omega (arith, below, wide))
