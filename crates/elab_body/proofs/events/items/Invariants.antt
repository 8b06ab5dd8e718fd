use Rattle.std.proofs.Common.{◌≡◌, ◌++◌, map, drop}
use Rattle.rtl_tree.specs.TreeItem.{happening}
use Rattle.rtl_flat.specs.Process.{watched}
use Rattle.elab_nodes.specs.elab_scope.Names.{meanings}
use Rattle.elab_body.specs.Events.{watched_of}
use Rattle.elab_body.proofs.events.items.Given as goal

abbrev pub invariant-loop-event : goal.invariant-loop-event
invariant-loop-event l =
    map watched l.made.items ++ map (watched_of l.site.file l.site.base (meanings l.names)) (map happening (drop l.event-index l.events))
    ≡ map (watched_of l.site.file l.site.base (meanings l.names)) (map happening l.events)
