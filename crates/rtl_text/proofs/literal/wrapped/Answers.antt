use Rattle.std.proofs.Common.{◌^◌, arith}
use Rattle.std.proofs.Math.Nat.{mod-lt}
use Rattle.rtl_text.proofs.Numbers.{turn_wrapped, ends}
use Rattle.rtl_text.proofs.literal.wrapped.Goals as goal

pub loop-b-preserved : goal.loop-b-preserved
loop-b-preserved c = record {
  fits = omega (arith, mod-lt);
  value = turn_wrapped c.args.unk (2 ^ 128) c.args.radix c.loop-b.total _ c.loop-b.b-index _ c.args.digits.now (omega arith) c.more_wrapped-total.ensures c.loop-b.invariant.value;
}

pub returns : goal.returns
returns c = ends c.args.unk (2 ^ 128) c.args.radix c.loop-b.total c.loop-b.b-index _ c.args.digits.now c.loop-b.invariant.fits (omega arith) c.loop-b.invariant.value
