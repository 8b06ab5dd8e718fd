use Rattle.std.proofs.Common.{◌≡◌, ◌++◌, map, drop}
use Rattle.rtl_tree.specs.TreeItem.{positional}
use Rattle.rtl_tree.specs.TreeModule.{header}
use Rattle.elab_uses.specs.elab_links.Ports.{port_names}
use Rattle.elab_readings.specs.Connections.{ordered_notes}
use Rattle.elab_readings.specs.Views.{ends}
use Rattle.elab_readings.proofs.connections.push_ordered.Given as goal

abbrev pub invariant-loop-place : goal.invariant-loop-place
invariant-loop-place l =
    l.made.items ++ ordered_notes (port_names (header l.ports)) (ends l.sides) l.place (map positional (drop l.place l.arguments))
    ≡ l.initial.made.items ++ ordered_notes (port_names (header l.ports)) (ends l.sides) 0 (map positional l.arguments)
