use Rattle.std.proofs.Common.{arith}
use Rattle.std.proofs.lemmas.Int.{ints}
use Rattle.rtl_const.proofs.Shifts.{none_left, sign_left}
use Rattle.rtl_const.proofs.number.without_places.Goals as goal

pub returns-then-left-lt0 : goal.returns-then-left-lt0
returns-then-left-lt0 c =
    sign_left c.args.left c.args.n c.ranges.left (omega (arith, ints)) (omega (arith, ints))

pub returns-else-left-lt0 : goal.returns-else-left-lt0
returns-else-left-lt0 c =
    none_left c.args.left c.args.n c.ranges.left (omega (arith, ints)) (omega (arith, ints))
