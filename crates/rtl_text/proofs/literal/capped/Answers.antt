use Rattle.std.proofs.Common.{◌^◌, arith}
use Rattle.rtl_text.proofs.Numbers.{turn_capped}
use Rattle.rtl_text.proofs.literal.capped.Goals as goal

pub loop-b-preserved : goal.loop-b-preserved
loop-b-preserved c = record {
  small = omega arith;
  value = turn_capped c.args.unk (2 ^ 32) c.args.radix c.loop-b.total _ c.loop-b.b-index _ c.args.digits.now c.requires (omega arith) c.more_capped-total.ensures c.loop-b.invariant.value;
}
