use Rattle.std.proofs.Common.{◌≡◌, ◌++◌, map, drop}
use Rattle.rtl_tree.specs.TreeItem.{associated}
use Rattle.elab_renames.specs.Renames.{renamed_associated, renaming}
use Rattle.elab_renames.proofs.instances.by_name.Given as goal

abbrev pub invariant-loop-argument : goal.invariant-loop-argument
invariant-loop-argument l =
    map associated l.made.items ++ map (renamed_associated (renaming l.naming)) (map associated (drop l.argument-index l.arguments))
    ≡ map (renamed_associated (renaming l.naming)) (map associated l.arguments)
