use Rattle.std.proofs.Common.{◌≡◌, length}
use Rattle.desk_server.proofs.Saying.{IsSaid}
use Rattle.desk_server.proofs.give.say.Given as goal

abbrev pub invariant-loop-rest : goal.invariant-loop-rest
invariant-loop-rest g l =
    record {
      so_far : IsSaid (g.L.Link.talk l.fn.link) (g.L.Link.talk l.link) l.bytes l.rest;
      still : g.L.Link.faults l.link ≡ g.L.Link.faults l.fn.link;
    }

abbrev pub decreases-loop-rest : goal.decreases-loop-rest
decreases-loop-rest g l = length l.rest
