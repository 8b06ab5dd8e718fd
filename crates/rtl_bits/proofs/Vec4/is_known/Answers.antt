use Rattle.rtl_bits.proofs.Numbers.{known_test}
use Rattle.rtl_bits.proofs.Vec4.is_known.Goals as goal

pub returns : goal.returns
returns c = known_test _ _ _ _ c.self.view_is c.self.invariant.unk_fits
