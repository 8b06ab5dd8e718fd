use Rattle.std.proofs.Common.{◌≡◌, map, drop}
use Rattle.std.specs.Option.{option_map}
use Rattle.rtl_tree.specs.TreeItem.{instantiation}
use Rattle.elab_items.specs.elab_scope.Faults.{after, refusal}
use Rattle.elab_items.specs.elab_scope.Names.{meanings}
use Rattle.elab_links.specs.Connections.{instantiations_faults}
use Rattle.elab_links.specs.Ports.{sockets}
use Rattle.elab_links.proofs.connections.judge_instantiations.Given as goal

abbrev pub invariant-loop-instance : goal.invariant-loop-instance
invariant-loop-instance l =
    after (option_map refusal l.best) (instantiations_faults l.child (sockets l.ports) (meanings l.names) (map instantiation (drop l.instance-index l.instances)))
    ≡ after (option_map refusal l.initial.best) (instantiations_faults l.child (sockets l.ports) (meanings l.names) (map instantiation l.instances))
