use Rattle.std.proofs.Common.{◌≡◌, map, drop}
use Rattle.std.specs.List.{list_all}
use Rattle.rtl_tree.specs.TreeStmt.{branch, branch_row}
use Rattle.elab_standard.specs.Cases.{case_labels, is_labelled_literal}
use Rattle.elab_standard.proofs.cases.all_literals.Given as goal

abbrev pub invariant-loop-item : goal.invariant-loop-item
invariant-loop-item l =
    list_all is_labelled_literal (case_labels (branch_row (map branch (drop l.item-index l.items))))
    ≡ list_all is_labelled_literal (case_labels (branch_row (map branch l.items)))
