use Rattle.std.proofs.Common.{◌≡◌, ◌≤◌, ◌+◌, ◌-◌, ◌^◌, map, min, drop}
use Rattle.elab_sizes.specs.Sizes.{associated_size, sizes}
use Rattle.rtl_tree.specs.TreeItem.{associated}
use Rattle.elab_sizes.proofs.items.named_size.Given as goal

abbrev pub invariant-loop-argument : goal.invariant-loop-argument
invariant-loop-argument l =
    (min (l.sum + sizes associated_size (map associated (drop l.argument-index l.all))) (2 ^ 32 - 1) ≡ min (sizes associated_size (map associated l.all)) (2 ^ 32 - 1))
    × (l.sum ≤ 2 ^ 32 - 1)
