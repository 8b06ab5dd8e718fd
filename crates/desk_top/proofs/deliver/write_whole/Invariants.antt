use Rattle.std.proofs.Common.{◌≡◌, length}
use Rattle.desk_top.proofs.Fronts.{IsFront}
use Rattle.desk_top.proofs.deliver.write_whole.Given as goal

abbrev pub invariant-loop-rest : goal.invariant-loop-rest
invariant-loop-rest g l =
    record {
      so_far : IsFront (g.S.Sink.taken l.fn.out) (g.S.Sink.taken l.out) l.bytes l.rest;
      still : g.S.Sink.faults l.out ≡ g.S.Sink.faults l.fn.out;
    }

abbrev pub decreases-loop-rest : goal.decreases-loop-rest
decreases-loop-rest g l = length l.rest
