use Rattle.std.proofs.Common.{◌≡◌, ◌++◌, map, drop}
use Rattle.rtl_tree.specs.TreeItem.{happening}
use Rattle.elab_standard.specs.Scopes.{scopes}
use Rattle.elab_uses.specs.Bodies.{notes_in}
use Rattle.elab_uses.specs.Items.{list_uses}
use Rattle.elab_uses.proofs.items.push_events.Given as goal

abbrev pub invariant-loop-event : goal.invariant-loop-event
invariant-loop-event l =
    l.made.items ++ notes_in l.home (list_uses (scopes l.scopes) (map happening (drop l.event-index l.events)))
    ≡ l.initial.made.items ++ notes_in l.home (list_uses (scopes l.scopes) (map happening l.events))
