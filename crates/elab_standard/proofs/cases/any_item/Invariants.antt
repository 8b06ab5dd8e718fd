use Rattle.std.proofs.Common.{◌≡◌, map, drop}
use Rattle.std.specs.List.{list_any}
use Rattle.rtl_tree.specs.TreeStmt.{branch, branch_row}
use Rattle.elab_standard.specs.Cases.{case_labels, is_extended_otherwise}
use Rattle.elab_standard.specs.Scopes.{scopes}
use Rattle.elab_standard.proofs.cases.any_item.Given as goal

abbrev pub invariant-loop-item : goal.invariant-loop-item
invariant-loop-item l =
    list_any (is_extended_otherwise (scopes l.kept).scope l.widest) (case_labels (branch_row (map branch (drop l.item-index l.items))))
    ≡ list_any (is_extended_otherwise (scopes l.kept).scope l.widest) (case_labels (branch_row (map branch l.items)))
