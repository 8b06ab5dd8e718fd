use Rattle.std.proofs.Common.{◌≡◌, ◌++◌, map, drop}
use Rattle.rtl_tree.specs.TreeItem.{positional}
use Rattle.elab_renames.specs.Renames.{renamed_positional, renaming}
use Rattle.elab_renames.proofs.instances.by_position.Given as goal

abbrev pub invariant-loop-argument : goal.invariant-loop-argument
invariant-loop-argument l =
    map positional l.made.items ++ map (renamed_positional (renaming l.naming)) (map positional (drop l.argument-index l.arguments))
    ≡ map (renamed_positional (renaming l.naming)) (map positional l.arguments)
