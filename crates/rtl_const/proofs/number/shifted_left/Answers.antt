use Rattle.std.proofs.Common.{sym, ap, arith, of_z, w64}
use Rattle.std.proofs.lemmas.Int.{ints}
use Rattle.rtl_const.proofs.Shifts.{shifted_far}
use Rattle.rtl_const.proofs.number.shifted_left.Goals as goal

pub returns-then-right-gt32 : goal.returns-then-right-gt32
returns-then-right-gt32 c =
    sym
    (shifted_far
    c.args.at
    c.args.left
    c.args.right
    (λ zero'. c.if-left-eq0.false (ap (of_z w64) zero'))
    (omega (arith, ints)))
