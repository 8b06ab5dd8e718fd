use Rattle.std.proofs.Common.{refl}
use Rattle.rtl_bits.specs.Planes.{in_val}
use Rattle.rtl_bits.specs.Bits.{is_one_at}
use Rattle.rtl_bits.specs.Inside.{in_val-bit_of}
use Rattle.rtl_bits.proofs.Stored.{stored}
use Rattle.rtl_bits.proofs.Vec4.val_digits.Goals as goal

pub returns : goal.returns
returns c = λ at.
    let v = c.self.inside.val in
    let u = c.self.inside.unk in
    stored in_val refl c.self.inside.width v u c.self.inside.val _ c.self.view_is c.self.invariant.val_fits (λ i. in_val-bit_of (is_one_at v i) (is_one_at u i)) at
