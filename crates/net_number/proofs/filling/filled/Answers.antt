use Rattle.net_number.proofs.Fills.{filled_one, filled_zero}
use Rattle.net_number.proofs.filling.filled.Goals as goal

pub returns-in-Zero-clause-bits : goal.returns-in-Zero-clause-bits
returns-in-Zero-clause-bits c =
    rw (c.of_number.ensures.bits, c.width.ensures.exact, c.in-Zero.is)
    (filled_zero _ _ c.args.bits c.val_digits.ensures c.unk_digits-unknown.ensures)

pub returns-in-One-clause-bits : goal.returns-in-One-clause-bits
returns-in-One-clause-bits c =
    rw (c.of_number-in-One.ensures.bits, c.width-in-One.ensures.exact, c.in-One.is)
    (filled_one _ _ c.args.bits c.val_digits.ensures c.unk_digits-unknown.ensures)
