use Rattle.std.proofs.Common.{◌≡◌, ◌≤◌, ◌+◌, ◌-◌, ◌^◌, map, min, drop}
use Rattle.elab_sizes.specs.Sizes.{target_size, sizes}
use Rattle.rtl_tree.specs.TreeStmt.{target}
use Rattle.elab_sizes.proofs.stmts.+sized_targets.Given as goal

abbrev pub invariant-targets_size-loop-lvalue : goal.invariant-targets_size-loop-lvalue
invariant-targets_size-loop-lvalue l =
    (min (l.sum + sizes target_size (map target (drop l.lvalue-index l.all))) (2 ^ 32 - 1) ≡ min (sizes target_size (map target l.all)) (2 ^ 32 - 1))
    × (l.sum ≤ 2 ^ 32 - 1)
