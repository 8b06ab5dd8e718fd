use Rattle.std.proofs.Common.{◌≡◌, map, drop}
use Rattle.rtl_tree.specs.TreeExpr.{formula}
use Rattle.rtl_tree.specs.TreeStmt.{branch, branch_row}
use Rattle.elab_scope.specs.Names.{meanings}
use Rattle.elab_nodes.specs.Spares.{spared}
use Rattle.elab_nodes.specs.Totals.{branches_count, case_count}
use Rattle.elab_nodes.proofs.items.spend_case.Given as goal

abbrev pub invariant-loop-item : goal.invariant-loop-item
invariant-loop-item l =
    spared l.left (branches_count (meanings l.names) (branch_row (map branch (drop l.item-index l.items))))
    ≡ spared l.fn.left (case_count (meanings l.names) (formula l.selector) (branch_row (map branch l.items)))
