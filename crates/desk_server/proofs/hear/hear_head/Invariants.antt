use Rattle.std.proofs.Common.{◌≡◌, ◌≤◌, ◌-◌, [], length, take}
use Rattle.desk_links.specs.Links.{GoesOn}
use Rattle.desk_server.proofs.hear.hear_head.Given as goal

abbrev pub invariant-loop-link : goal.invariant-loop-link
invariant-loop-link g l =
    record {
      so_far : GoesOn (g.L.Link.talk l.fn.link) (g.L.Link.talk l.link) (take l.count l.buf) [];
      still : g.L.Link.faults l.link ≡ g.L.Link.faults l.fn.link;
      within : l.count ≤ length l.buf;
    }

abbrev pub decreases-loop-link : goal.decreases-loop-link
decreases-loop-link g l = length l.buf - l.count
