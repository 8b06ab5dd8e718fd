use Rattle.std.proofs.Common.{arith}
use Rattle.rtl_const.proofs.Powers.{clog2_above, clog2_none}
use Rattle.rtl_const.proofs.logarithm.clog2.Goals as goal

pub returns-then-n-le1 : goal.returns-then-n-le1
returns-then-n-le1 c = clog2_none c.args.n (omega (arith, c.if-n-le1.true))

pub returns : goal.returns
returns c =
    clog2_above c.args.n c.ilog2.result c.ilog2.ensures.bound (omega (arith, c.ilog2.ensures.power_le)) (omega (arith, c.ilog2.ensures.next_power_gt))
