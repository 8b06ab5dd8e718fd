use Rattle.std.proofs.Common.{◌≡◌, map, drop}
use Rattle.std.specs.Option.{option_map}
use Rattle.rtl_tree.specs.TreeItem.{happening}
use Rattle.elab_nodes.specs.elab_scope.Faults.{after, refusal}
use Rattle.elab_nodes.specs.elab_scope.Names.{meanings}
use Rattle.elab_body.specs.Events.{events_faults}
use Rattle.elab_body.proofs.events.judge_events.Given as goal

abbrev pub invariant-loop-event : goal.invariant-loop-event
invariant-loop-event l =
    after (option_map refusal l.best) (events_faults (meanings l.names) (map happening (drop l.event-index l.events)))
    ≡ after (option_map refusal l.initial.best) (events_faults (meanings l.names) (map happening l.events))
