use Rattle.std.proofs.Common.{◌≡◌, ◌≤◌, ◌+◌, ◌-◌, ◌^◌, map, min, drop}
use Rattle.elab_sizes.specs.Sizes.{gate_drive_size, sizes}
use Rattle.rtl_tree.specs.TreeItem.{gate_drive}
use Rattle.elab_sizes.proofs.items.gate_drives_size.Given as goal

abbrev pub invariant-loop-drive : goal.invariant-loop-drive
invariant-loop-drive l =
    (min (l.sum + sizes gate_drive_size (map gate_drive (drop l.drive-index l.all))) (2 ^ 32 - 1) ≡ min (sizes gate_drive_size (map gate_drive l.all)) (2 ^ 32 - 1))
    × (l.sum ≤ 2 ^ 32 - 1)
