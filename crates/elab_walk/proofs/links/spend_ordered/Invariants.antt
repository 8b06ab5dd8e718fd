use Rattle.std.proofs.Common.{◌≡◌, map, drop}
use Rattle.rtl_tree.specs.TreeItem.{positional}
use Rattle.elab_links.specs.elab_scope.Names.{meanings}
use Rattle.elab_parts.specs.elab_body.Courses.{course}
use Rattle.elab_parts.specs.elab_body.Steps.{passed}
use Rattle.elab_links.specs.Ports.{sockets}
use Rattle.elab_walk.specs.Links.{ordered_steps}
use Rattle.elab_walk.proofs.links.spend_ordered.Given as goal

abbrev pub invariant-loop-place : goal.invariant-loop-place
invariant-loop-place l =
    passed (course l.so_far) (ordered_steps (sockets l.ports) (meanings l.names) l.place (map positional (drop l.place l.arguments)))
    ≡ passed (course l.initial.so_far) (ordered_steps (sockets l.ports) (meanings l.names) 0 (map positional l.arguments))
