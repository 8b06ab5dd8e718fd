use Rattle.std.proofs.Common.{◌≤◌, ◌-◌, length}
use Rattle.desk_server.proofs.Bodies.{IsGathered}
use Rattle.desk_server.proofs.hear.hear_body.Given as goal

abbrev pub invariant-loop-body : goal.invariant-loop-body
invariant-loop-body g l =
    record {
      so_far : IsGathered (g.L.Link.talk l.fn.link) (g.L.Link.talk l.link) l.front l.body.items l.count;
      later : g.L.Link.faults l.fn.link ≤ g.L.Link.faults l.link;
    }

abbrev pub decreases-loop-body : goal.decreases-loop-body
decreases-loop-body g l = l.count - length l.body.items
