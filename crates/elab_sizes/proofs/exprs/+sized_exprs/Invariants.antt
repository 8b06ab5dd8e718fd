use Rattle.std.proofs.Common.{◌≡◌, ◌≤◌, ◌+◌, ◌-◌, ◌^◌, map, min, drop}
use Rattle.elab_sizes.specs.Sizes.{formula_size, sizes}
use Rattle.rtl_tree.specs.TreeExpr.{formula}
use Rattle.elab_sizes.proofs.exprs.+sized_exprs.Given as goal

abbrev pub invariant-exprs_size-loop-e : goal.invariant-exprs_size-loop-e
invariant-exprs_size-loop-e l =
    (min (l.sum + sizes formula_size (map formula (drop l.e-index l.all))) (2 ^ 32 - 1) ≡ min (sizes formula_size (map formula l.all)) (2 ^ 32 - 1))
    × (l.sum ≤ 2 ^ 32 - 1)
