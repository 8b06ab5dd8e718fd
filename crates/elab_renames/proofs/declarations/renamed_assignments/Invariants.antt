use Rattle.std.proofs.Common.{◌≡◌, ◌++◌, map, drop}
use Rattle.rtl_tree.specs.TreeItem.{drive}
use Rattle.elab_renames.specs.Renames.{renamed_drive, renaming}
use Rattle.elab_renames.proofs.declarations.renamed_assignments.Given as goal

abbrev pub invariant-loop-assignment : goal.invariant-loop-assignment
invariant-loop-assignment l =
    map drive l.made.items ++ map (renamed_drive (renaming l.naming)) (map drive (drop l.assignment-index l.assignments))
    ≡ map (renamed_drive (renaming l.naming)) (map drive l.assignments)
