use Rattle.std.proofs.Common.{◌∙◌}
use Rattle.rtl_bits.proofs.Wrapping.{negative_bits}
use Rattle.rtl_bits.proofs.Vec4.of_magnitude.Goals as goal

pub returns-then-is_negative-clause-bits : goal.returns-then-is_negative-clause-bits
returns-then-is_negative-clause-bits c =
    rw c.if-is_negative.true (c.of_number.ensures.bits ∙ negative_bits _ _ c.requires.at_most c.requires.fits)
