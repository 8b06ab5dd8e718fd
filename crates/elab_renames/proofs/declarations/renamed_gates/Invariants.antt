use Rattle.std.proofs.Common.{◌≡◌, ◌++◌, map, drop}
use Rattle.rtl_tree.specs.TreeItem.{gate_drive}
use Rattle.elab_renames.specs.Renames.{renamed_gate_drive, renaming}
use Rattle.elab_renames.proofs.declarations.renamed_gates.Given as goal

abbrev pub invariant-loop-drive : goal.invariant-loop-drive
invariant-loop-drive l =
    map gate_drive l.made.items ++ map (renamed_gate_drive (renaming l.naming)) (map gate_drive (drop l.drive-index l.drives))
    ≡ map (renamed_gate_drive (renaming l.naming)) (map gate_drive l.drives)
