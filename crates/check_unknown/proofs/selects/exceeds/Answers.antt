use Rattle.check_unknown.proofs.Picks.{few_bits, many_bits}
use Rattle.std.proofs.Common.{◌<◌, arith}
use Rattle.check_unknown.proofs.selects.exceeds.Goals as goal

pub returns-then-bits-ge8 : goal.returns-then-bits-ge8
returns-then-bits-ge8 c =
    many_bits c.args.width c.args.bits c.if-bits-ge8.true (let e : c.args.width < 256 = omega arith in e)

pub returns-else-bits-ge8 : goal.returns-else-bits-ge8
returns-else-bits-ge8 c = few_bits c.args.width c.args.bits
