use Rattle.std.proofs.Common.{arith}
use Rattle.rtl_scan.proofs.Masks.{ones_between}
use Rattle.rtl_scan.proofs.Places.{none_between}
use Rattle.net_body.proofs.bits.ones.Goals as goal

pub returns-then-low-high : goal.returns-then-low-high
returns-then-low-high c = λ k. none_between c.args.low c.args.high k c.if-low-high.true

pub returns : goal.returns
returns c = λ k. ones_between c.args.low c.args.high k (omega arith) c.requires
