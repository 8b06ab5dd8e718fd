use Rattle.std.proofs.Common.{◌≡◌, ◌++◌, map, drop}
use Rattle.rtl_tree.specs.TreeExpr.{identifier}
use Rattle.elab_renames.specs.Renames.{renamed_identifier, renaming}
use Rattle.elab_renames.proofs.naming.renamed_names.Given as goal

abbrev pub invariant-loop-name : goal.invariant-loop-name
invariant-loop-name l =
    map identifier l.made.items ++ map (renamed_identifier (renaming l.naming)) (map identifier (drop l.name-index l.names))
    ≡ map (renamed_identifier (renaming l.naming)) (map identifier l.names)
