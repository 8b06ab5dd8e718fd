use Rattle.std.proofs.Common.{◌≡◌, ◌<◌, ◌^◌, false, ap, ◌∙◌, rules, zero-add}
use Rattle.rtl_bits.specs.Bits.{has_unknown, bits_of}
use Rattle.rtl_bits.proofs.Wrapping.{bits_of_wrapped_difference}
use Rattle.rtl_bits.proofs.Vec4.neg.Goals as goal

pub returns-clause-bits : goal.returns-clause-bits
returns-clause-bits c =
    let known : has_unknown c.args.self ≡ false = search rules in
    let below : c.number.result < 2 ^ c.width-2.result = rw c.width-2.ensures.exact c.number.ensures.fits in
    rw (known, ← c.number.ensures.exact, ← c.width-2.ensures.exact)
    (c.of_number.ensures.bits ∙ bits_of_wrapped_difference _ 0 _ c.width-2.ensures.at_most below
    ∙ ap (bits_of c.width-2.result) (zero-add _))
