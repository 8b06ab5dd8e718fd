use Rattle.std.proofs.Common.{◌≡◌, map, drop}
use Rattle.std.specs.List.{slice_get}
use Rattle.rtl_tree.specs.TreeItem.{gate_drive}
use Rattle.elab_parts.specs.Gates.{assignments_of}
use Rattle.elab_parts.specs.Items.{drive_places}
use Rattle.elab_parts.proofs.places.output_at.Given as goal

abbrev pub invariant-loop-drive : goal.invariant-loop-drive
invariant-loop-drive l =
    slice_get (drive_places (assignments_of (map gate_drive (drop l.drive-index l.drives)))) l.left
    ≡ slice_get (drive_places (assignments_of (map gate_drive l.drives))) l.initial.left
