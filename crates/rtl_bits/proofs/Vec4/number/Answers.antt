use Rattle.rtl_bits.specs.Inside.{width_back}
use Rattle.rtl_bits.proofs.Numbers.{known_number}
use Rattle.rtl_bits.proofs.Known.{bits_of-number}
use Rattle.std.proofs.Common.{length, ap, ◌∙◌}
use Rattle.rtl_bits.specs.Bits.{bits_of}
use Rattle.rtl_bits.proofs.Vec4.number.Goals as goal

pub returns-clause-exact : goal.returns-clause-exact
returns-clause-exact c =
    known_number _ _ _ _ c.self.view_is c.self.invariant.val_fits c.self.invariant.unk_fits c.requires

pub returns-clause-fits : goal.returns-clause-fits
returns-clause-fits c = rw (← c.self.view_is, width_back) c.self.invariant.val_fits

pub returns-clause-bits : goal.returns-clause-bits
returns-clause-bits c =
    ap (bits_of (length c.args.self))
    (known_number _ _ _ _ c.self.view_is c.self.invariant.val_fits c.self.invariant.unk_fits c.requires)
    ∙ bits_of-number c.args.self c.requires
