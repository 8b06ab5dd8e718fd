use Rattle.std.proofs.Common.{◌≡◌, ◌≤◌, ◌+◌, ◌-◌, ◌^◌, map, min, drop}
use Rattle.elab_sizes.specs.Sizes.{identifier_size, sizes}
use Rattle.rtl_tree.specs.TreeExpr.{identifier}
use Rattle.elab_sizes.proofs.names.names_size.Given as goal

abbrev pub invariant-loop-name : goal.invariant-loop-name
invariant-loop-name l =
    (min (l.sum + sizes identifier_size (map identifier (drop l.name-index l.all))) (2 ^ 32 - 1) ≡ min (sizes identifier_size (map identifier l.all)) (2 ^ 32 - 1))
    × (l.sum ≤ 2 ^ 32 - 1)
