use Rattle.std.proofs.Common.{◌≡◌, ◌++◌, map, drop}
use Rattle.rtl_tree.specs.TreeItem.{gate_drive}
use Rattle.elab_standard.specs.Scopes.{scopes}
use Rattle.elab_uses.specs.Bodies.{notes_in}
use Rattle.elab_uses.specs.Items.{gate_uses}
use Rattle.elab_uses.proofs.items.push_gates.Given as goal

abbrev pub invariant-loop-drive : goal.invariant-loop-drive
invariant-loop-drive l =
    l.made.items ++ notes_in l.home (gate_uses (scopes l.scopes) (map gate_drive (drop l.drive-index l.drives)))
    ≡ l.initial.made.items ++ notes_in l.home (gate_uses (scopes l.scopes) (map gate_drive l.drives))
