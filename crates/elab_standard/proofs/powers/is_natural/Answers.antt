use Rattle.std.specs.Prelude.{pos, int_le, not}
use Rattle.std.proofs.Common.{◌∙◌, ap, sym}
use Rattle.rtl_flat.specs.Value.{index_number}
use Rattle.elab_standard.proofs.Raising.{signed_natural}
use Rattle.elab_standard.proofs.powers.is_natural.Goals as goal

pub returns-then-signed : goal.returns-then-signed
returns-then-signed c =
    ap not c.is_negative.ensures
    ∙ signed_natural c.args.bits
    ∙ sym (ap (λ signed. int_le (pos 0) (index_number signed c.args.bits)) c.if-signed.true)
