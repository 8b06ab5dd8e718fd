use Rattle.std.proofs.Common.{◌≡◌, ◌∙◌, ap, length, sym}
use Rattle.elab_standard.proofs.Likeness.{same_length}
use Rattle.elab_standard.proofs.alike.parameter_alike.Goals as goal

pub matches-requires : goal.matches-requires
matches-requires c =
    ap length c.named_bits-own.ensures
    ∙ same_length c.args.number c.args.width c.args.signed c.args.standard (cc)
    ∙ sym (ap length c.standard_bits.ensures)
