use Rattle.std.proofs.Common.{◌≡◌, map, drop}
use Rattle.rtl_tree.specs.TreeItem.{associated}
use Rattle.elab_links.specs.elab_scope.Names.{meanings}
use Rattle.elab_parts.specs.elab_body.Courses.{course}
use Rattle.elab_parts.specs.elab_body.Steps.{passed}
use Rattle.elab_links.specs.Ports.{sockets}
use Rattle.elab_walk.specs.Links.{named_steps}
use Rattle.elab_walk.proofs.links.spend_named.Given as goal

abbrev pub invariant-loop-argument : goal.invariant-loop-argument
invariant-loop-argument l =
    passed (course l.so_far) (named_steps (sockets l.ports) (meanings l.names) (map associated (drop l.argument-index l.arguments)))
    ≡ passed (course l.initial.so_far) (named_steps (sockets l.ports) (meanings l.names) (map associated l.arguments))
