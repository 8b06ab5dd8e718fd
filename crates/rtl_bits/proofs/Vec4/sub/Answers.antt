use Rattle.std.proofs.Common.{◌≡◌, ◌<◌, ◌^◌, false, ◌∙◌, rules}
use Rattle.rtl_bits.specs.Bits.{has_unknown}
use Rattle.rtl_bits.proofs.Wrapping.{bits_of_wrapped_difference}
use Rattle.rtl_bits.proofs.Vec4.sub.Goals as goal

pub returns-clause-bits : goal.returns-clause-bits
returns-clause-bits c =
    let left : has_unknown c.args.self ≡ false = search rules in
    let right : has_unknown c.args.o ≡ false = search rules in
    let below : c.number-2.result < 2 ^ c.width-2.result
    = rw (c.width-2.ensures.exact, c.requires) c.number-2.ensures.fits in
    rw (left, right, ← c.number.ensures.exact, ← c.number-2.ensures.exact, ← c.width-2.ensures.exact)
    (c.of_number.ensures.bits ∙ bits_of_wrapped_difference _ _ _ c.width-2.ensures.at_most below)
