use Rattle.std.proofs.Common.{◌≡◌, map, drop}
use Rattle.rtl_tree.specs.TreeItem.{instantiation}
use Rattle.elab_links.specs.elab_scope.Names.{meanings}
use Rattle.elab_parts.specs.elab_body.Courses.{course}
use Rattle.elab_parts.specs.elab_body.Steps.{passed}
use Rattle.elab_links.specs.Ports.{sockets}
use Rattle.elab_walk.specs.Links.{instantiations_steps}
use Rattle.elab_walk.proofs.links.spend_instances.Given as goal

abbrev pub invariant-loop-instance : goal.invariant-loop-instance
invariant-loop-instance l =
    passed (course l.so_far) (instantiations_steps (sockets l.ports) (meanings l.names) (map instantiation (drop l.instance-index l.instances)))
    ≡ passed (course l.initial.so_far) (instantiations_steps (sockets l.ports) (meanings l.names) (map instantiation l.instances))
