use Rattle.std.proofs.Common.{◌≡◌, map, drop}
use Rattle.std.specs.Option.{option_map}
use Rattle.rtl_tree.specs.TreeItem.{positional}
use Rattle.elab_items.specs.elab_scope.Faults.{after, refusal}
use Rattle.elab_items.specs.elab_scope.Names.{meanings}
use Rattle.elab_links.specs.Connections.{ordered_link_faults}
use Rattle.elab_links.specs.Ports.{sockets}
use Rattle.elab_links.proofs.connections.judge_ordered.Given as goal

abbrev pub invariant-loop-place : goal.invariant-loop-place
invariant-loop-place l =
    after (option_map refusal l.best) (ordered_link_faults l.child (sockets l.ports) (meanings l.names) l.place (map positional (drop l.place l.arguments)))
    ≡ after (option_map refusal l.initial.best) (ordered_link_faults l.child (sockets l.ports) (meanings l.names) 0 (map positional l.arguments))
