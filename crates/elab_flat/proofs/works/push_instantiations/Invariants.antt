use Rattle.std.proofs.Common.{◌≡◌, ◌++◌, map, drop}
use Rattle.rtl_flat.specs.Process.{task}
use Rattle.rtl_tree.specs.TreeItem.{instantiation}
use Rattle.elab_walk.specs.elab_scope.Names.{meanings}
use Rattle.elab_walk.specs.elab_links.Ports.{sockets}
use Rattle.elab_walk.specs.Trails.{placement}
use Rattle.elab_flat.specs.Children.{bases_of}
use Rattle.elab_flat.specs.Works.{instantiations_tasks}
use Rattle.elab_flat.proofs.works.push_instantiations.Given as goal

abbrev pub invariant-loop-instance : goal.invariant-loop-instance
invariant-loop-instance l =
    map task l.made.items ++ instantiations_tasks (placement l.at) (sockets l.ports) (meanings l.inner) (bases_of l.held) (map instantiation (drop l.instance-index l.instances))
    ≡ map task l.initial.made.items ++ instantiations_tasks (placement l.at) (sockets l.ports) (meanings l.inner) (bases_of l.initial.held) (map instantiation l.instances)
