use Rattle.std.proofs.Common.{◌∙◌, arith}
use Rattle.rtl_const.proofs.Shifts.{literal_beyond}
use Rattle.rtl_const.proofs.number.literal.Goals as goal

pub returns-then-place-ge128 : goal.returns-then-place-ge128
returns-then-place-ge128 c =
    c.natural-then-place-ge128.ensures
    ∙ literal_beyond c.args.at c.args.l.now c.if-l-ne0.false (omega arith) (omega arith)
