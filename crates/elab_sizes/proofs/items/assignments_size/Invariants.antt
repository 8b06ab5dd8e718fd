use Rattle.std.proofs.Common.{◌≡◌, ◌≤◌, ◌+◌, ◌-◌, ◌^◌, map, min, drop}
use Rattle.elab_sizes.specs.Sizes.{drive_size, sizes}
use Rattle.rtl_tree.specs.TreeItem.{drive}
use Rattle.elab_sizes.proofs.items.assignments_size.Given as goal

abbrev pub invariant-loop-assignment : goal.invariant-loop-assignment
invariant-loop-assignment l =
    (min (l.sum + sizes drive_size (map drive (drop l.assignment-index l.all))) (2 ^ 32 - 1) ≡ min (sizes drive_size (map drive l.all)) (2 ^ 32 - 1))
    × (l.sum ≤ 2 ^ 32 - 1)
