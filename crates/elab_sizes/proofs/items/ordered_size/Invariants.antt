use Rattle.std.proofs.Common.{◌≡◌, ◌≤◌, ◌+◌, ◌-◌, ◌^◌, map, min, drop}
use Rattle.elab_sizes.specs.Sizes.{positional_size, sizes}
use Rattle.rtl_tree.specs.TreeItem.{positional}
use Rattle.elab_sizes.proofs.items.ordered_size.Given as goal

abbrev pub invariant-loop-argument : goal.invariant-loop-argument
invariant-loop-argument l =
    (min (l.sum + sizes positional_size (map positional (drop l.argument-index l.all))) (2 ^ 32 - 1) ≡ min (sizes positional_size (map positional l.all)) (2 ^ 32 - 1))
    × (l.sum ≤ 2 ^ 32 - 1)
