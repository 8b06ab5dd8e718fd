use Rattle.std.proofs.Common.{◌≡◌}
use Rattle.desk_runs.specs.Progress.{steps_left}
use Rattle.desk_top.proofs.Streaming.{IsGoing}
use Rattle.desk_top.proofs.stream.stream.Given as goal

abbrev pub invariant-loop-line : goal.invariant-loop-line
invariant-loop-line g l =
    record {
      going : IsGoing l.design l.steps l.run (g.S.Sink.taken l.fn.out) (g.S.Sink.taken l.out);
      still : g.S.Sink.faults l.out ≡ g.S.Sink.faults l.fn.out;
    }

abbrev pub decreases-loop-line : goal.decreases-loop-line
decreases-loop-line g l = steps_left l.run
