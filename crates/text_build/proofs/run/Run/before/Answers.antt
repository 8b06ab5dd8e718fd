use Rattle.std.proofs.Common.{arith}
use Rattle.text_build.proofs.Filtered.{still_before}
use Rattle.text_build.proofs.run.Run.before.Goals as goal

pub loop-low-preserved-then-self-middle : goal.loop-low-preserved-then-self-middle
loop-low-preserved-then-self-middle c = record {
  ordered = omega arith;
  bound = c.loop-low.invariant.bound;
  before = λ k d m. still_before _ _ _ k d _ c.args.self.now.by_place (omega arith) (omega arith) c.if-self-middle.true;
}
