use Rattle.std.proofs.Common.{◌≡◌, map, drop}
use Rattle.std.specs.List.{list_any}
use Rattle.rtl_tree.specs.TreeItem.{happening}
use Rattle.elab_body.specs.Events.{is_edge_event}
use Rattle.elab_body.proofs.events.has_edge.Given as goal

abbrev pub invariant-loop-event : goal.invariant-loop-event
invariant-loop-event l =
    list_any is_edge_event (map happening (drop l.event-index l.events)) ≡ list_any is_edge_event (map happening l.events)
