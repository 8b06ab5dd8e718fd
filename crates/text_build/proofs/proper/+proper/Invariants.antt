use Rattle.std.proofs.Common.{◌≡◌, map, drop}
use Rattle.rtl_tree.specs.TreeStmt.{action, action_row, branch, branch_row}
use Rattle.text_build.specs.Tests.{are_proper, are_proper_branches}
use Rattle.text_build.proofs.proper.+proper.Given as goal

abbrev pub invariant-are_all_proper-loop-stmt : goal.invariant-are_all_proper-loop-stmt
invariant-are_all_proper-loop-stmt l =
    are_proper (action_row (map action (drop l.stmt-index l.all))) ≡ are_proper (action_row (map action l.all))

abbrev pub invariant-are_proper_branches-loop-item : goal.invariant-are_proper_branches-loop-item
invariant-are_proper_branches-loop-item l =
    are_proper_branches (branch_row (map branch (drop l.item-index l.items)))
    ≡ are_proper_branches (branch_row (map branch l.items))
