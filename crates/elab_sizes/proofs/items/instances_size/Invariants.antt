use Rattle.std.proofs.Common.{◌≡◌, ◌≤◌, ◌+◌, ◌-◌, ◌^◌, map, min, drop}
use Rattle.elab_sizes.specs.Sizes.{instantiation_size, sizes}
use Rattle.rtl_tree.specs.TreeItem.{instantiation}
use Rattle.elab_sizes.proofs.items.instances_size.Given as goal

abbrev pub invariant-loop-instance : goal.invariant-loop-instance
invariant-loop-instance l =
    (min (l.sum + sizes instantiation_size (map instantiation (drop l.instance-index l.all))) (2 ^ 32 - 1) ≡ min (sizes instantiation_size (map instantiation l.all)) (2 ^ 32 - 1))
    × (l.sum ≤ 2 ^ 32 - 1)
