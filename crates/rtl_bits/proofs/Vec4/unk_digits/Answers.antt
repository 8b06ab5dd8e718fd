use Rattle.std.proofs.Common.{refl}
use Rattle.rtl_bits.specs.Bit.{is_unknown}
use Rattle.rtl_bits.specs.Bits.{is_one_at}
use Rattle.rtl_bits.specs.Inside.{is_unknown-bit_of}
use Rattle.rtl_bits.proofs.Stored.{stored}
use Rattle.rtl_bits.proofs.Vec4.unk_digits.Goals as goal

pub returns : goal.returns
returns c = λ at.
    let v = c.self.inside.val in
    let u = c.self.inside.unk in
    stored is_unknown refl c.self.inside.width v u c.self.inside.unk _ c.self.view_is c.self.invariant.unk_fits (λ i. is_unknown-bit_of (is_one_at v i) (is_one_at u i)) at
