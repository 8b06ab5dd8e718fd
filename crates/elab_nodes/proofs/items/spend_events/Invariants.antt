use Rattle.std.proofs.Common.{◌≡◌, map, drop}
use Rattle.rtl_tree.specs.TreeItem.{happening}
use Rattle.elab_scope.specs.Names.{meanings}
use Rattle.elab_nodes.specs.Spares.{spared}
use Rattle.elab_nodes.specs.Totals.{events_count}
use Rattle.elab_nodes.proofs.items.spend_events.Given as goal

abbrev pub invariant-loop-event : goal.invariant-loop-event
invariant-loop-event l =
    spared l.left (events_count (meanings l.names) (map happening (drop l.event-index l.events)))
    ≡ spared l.initial.left (events_count (meanings l.names) (map happening l.events))
