use Rattle.std.proofs.Common.{◌≡◌, ◌++◌, map, drop}
use Rattle.rtl_tree.specs.TreeStmt.{target}
use Rattle.elab_renames.specs.Renames.{renamed_target, renaming}
use Rattle.elab_renames.proofs.targets.+target.Given as goal

abbrev pub invariant-renamed_targets-loop-written : goal.invariant-renamed_targets-loop-written
invariant-renamed_targets-loop-written l =
    map target l.made.items ++ map (renamed_target (renaming l.naming)) (map target (drop l.written-index l.all))
    ≡ map (renamed_target (renaming l.naming)) (map target l.all)
