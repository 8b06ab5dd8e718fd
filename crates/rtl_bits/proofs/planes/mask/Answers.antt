use Rattle.std.proofs.Common.{◌-◌, arith, ap, ◌∙◌, ◌^◌}
use Rattle.std.proofs.lemmas.Nat.Bits.{ones_shr}
use Rattle.rtl_bits.proofs.planes.mask.Goals as goal

pub returns : goal.returns
returns c =
    ones_shr 128 (128 - c.args.width) (omega arith) ∙ ap (λ w. 2 ^ w - 1) (omega arith)
