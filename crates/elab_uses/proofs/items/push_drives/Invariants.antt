use Rattle.std.proofs.Common.{◌≡◌, ◌++◌, map, drop}
use Rattle.rtl_tree.specs.TreeItem.{drive}
use Rattle.elab_standard.specs.Scopes.{scopes}
use Rattle.elab_uses.specs.Bodies.{notes_in}
use Rattle.elab_uses.specs.Items.{drive_uses}
use Rattle.elab_uses.proofs.items.push_drives.Given as goal

abbrev pub invariant-loop-assignment : goal.invariant-loop-assignment
invariant-loop-assignment l =
    l.made.items ++ notes_in l.home (drive_uses (scopes l.scopes) (map drive (drop l.assignment-index l.assignments)))
    ≡ l.initial.made.items ++ notes_in l.home (drive_uses (scopes l.scopes) (map drive l.assignments))
