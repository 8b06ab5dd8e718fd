use Rattle.std.proofs.Common.{◌≡◌, ◌++◌, map, drop}
use Rattle.rtl_tree.specs.TreeItem.{happening}
use Rattle.elab_renames.specs.Renames.{renamed_happening, renaming}
use Rattle.elab_renames.proofs.processes.renamed_events.Given as goal

abbrev pub invariant-loop-event : goal.invariant-loop-event
invariant-loop-event l =
    map happening l.made.items ++ map (renamed_happening (renaming l.naming)) (map happening (drop l.event-index l.events))
    ≡ map (renamed_happening (renaming l.naming)) (map happening l.events)
