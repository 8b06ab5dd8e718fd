use Rattle.std.proofs.Common.{◌≡◌, ◌≤◌, ◌+◌, ◌-◌, ◌^◌, map, min, drop}
use Rattle.elab_sizes.specs.Sizes.{action_size, branch_size, sizes}
use Rattle.rtl_tree.specs.TreeStmt.{action, branch}
use Rattle.elab_sizes.proofs.stmts.+sized_stmts.Given as goal

abbrev pub invariant-stmts_size-loop-stmt : goal.invariant-stmts_size-loop-stmt
invariant-stmts_size-loop-stmt l =
    (min (l.sum + sizes action_size (map action (drop l.stmt-index l.all))) (2 ^ 32 - 1) ≡ min (sizes action_size (map action l.all)) (2 ^ 32 - 1))
    × (l.sum ≤ 2 ^ 32 - 1)

abbrev pub invariant-case_items_size-loop-item : goal.invariant-case_items_size-loop-item
invariant-case_items_size-loop-item l =
    (min (l.sum + sizes branch_size (map branch (drop l.item-index l.all))) (2 ^ 32 - 1) ≡ min (sizes branch_size (map branch l.all)) (2 ^ 32 - 1))
    × (l.sum ≤ 2 ^ 32 - 1)
