use Rattle.std.proofs.Common.{◌≡◌, ◌+◌, ◌-◌, ◌^◌, ◌≤◌, length, map, drop, min}
use Rattle.rtl_tree.specs.TreeItem.{gate_drive}
use Rattle.elab_parts.specs.Gates.{assignments_of}
use Rattle.elab_parts.specs.Items.{drive_places}
use Rattle.elab_parts.proofs.places.outputs.Given as goal

abbrev pub invariant-loop-drive : goal.invariant-loop-drive
invariant-loop-drive l =
    (min (l.count + length (drive_places (assignments_of (map gate_drive (drop l.drive-index l.drives))))) (2 ^ 64 - 1)
    ≡ min (length (drive_places (assignments_of (map gate_drive l.drives)))) (2 ^ 64 - 1))
    × (l.count ≤ 2 ^ 64 - 1)
