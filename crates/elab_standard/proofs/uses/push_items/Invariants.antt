use Rattle.std.proofs.Common.{◌≡◌, ◌++◌, map, drop}
use Rattle.rtl_tree.specs.TreeStmt.{branch, branch_row}
use Rattle.elab_standard.specs.Scopes.{scopes}
use Rattle.elab_standard.specs.Uses.{branches_notes}
use Rattle.elab_standard.proofs.uses.push_items.Given as goal

abbrev pub invariant-loop-item : goal.invariant-loop-item
invariant-loop-item l =
    l.made.items ++ branches_notes l.home (scopes l.kept) (branch_row (map branch (drop l.item-index l.items)))
    ≡ l.initial.made.items ++ branches_notes l.home (scopes l.kept) (branch_row (map branch l.items))
