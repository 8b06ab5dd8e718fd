use Rattle.std.proofs.Common.{◌≡◌, map, drop}
use Rattle.rtl_tree.specs.TreeStmt.{branch, branch_row}
use Rattle.elab_standard.specs.Cases.{case_labels}
use Rattle.elab_standard.specs.Scopes.{scopes}
use Rattle.elab_standard.specs.Uses.{any_differs}
use Rattle.elab_standard.proofs.uses.any_item.Given as goal

abbrev pub invariant-loop-item : goal.invariant-loop-item
invariant-loop-item l =
    any_differs (scopes l.kept) (case_labels (branch_row (map branch (drop l.item-index l.items)))) l.desk l.standard
    ≡ any_differs (scopes l.kept) (case_labels (branch_row (map branch l.items))) l.desk l.standard
