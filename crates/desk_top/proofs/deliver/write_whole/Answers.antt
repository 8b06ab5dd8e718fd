use Rattle.std.proofs.Common.{arith}
use Rattle.desk_top.proofs.Fronts.{goes_on}
use Rattle.desk_top.proofs.deliver.write_whole.Goals as goal

pub loop-rest-preserved : goal.loop-rest-preserved
loop-rest-preserved g c =
    record {
      so_far = rw c.split_at.ensures.back
          (goes_on (g.S.Sink.taken c.args.out.now) (g.S.Sink.taken c.loop-rest.out) (g.S.Sink.taken c.write.new.self) c.args.bytes.now c.loop-rest.rest.now c.in_ok-count.count
          c.loop-rest.invariant.so_far c.in_ok-count.ensures.told);
      still = omega (arith, c.loop-rest.invariant.still, c.in_ok-count.ensures.calm);
    }
