use Rattle.std.proofs.Common.{◌≡◌, map, drop}
use Rattle.std.specs.List.{list_all}
use Rattle.rtl_tree.specs.TreeStmt.{branch, branch_row}
use Rattle.elab_standard.specs.Alike.{reads_alike}
use Rattle.elab_standard.specs.Cases.{case_labels}
use Rattle.elab_standard.specs.Scopes.{scopes}
use Rattle.elab_standard.proofs.alike.items_alike.Given as goal

abbrev pub invariant-loop-item : goal.invariant-loop-item
invariant-loop-item l =
    list_all (reads_alike (scopes l.kept)) (case_labels (branch_row (map branch (drop l.item-index l.items))))
    ≡ list_all (reads_alike (scopes l.kept)) (case_labels (branch_row (map branch l.items)))
