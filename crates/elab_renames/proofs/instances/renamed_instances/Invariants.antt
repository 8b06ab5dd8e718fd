use Rattle.std.proofs.Common.{◌≡◌, ◌++◌, map, drop}
use Rattle.rtl_tree.specs.TreeItem.{instantiation}
use Rattle.elab_renames.specs.Renames.{renamed_instantiation, renaming}
use Rattle.elab_renames.proofs.instances.renamed_instances.Given as goal

abbrev pub invariant-loop-instance : goal.invariant-loop-instance
invariant-loop-instance l =
    map instantiation l.made.items ++ map (renamed_instantiation (renaming l.naming)) (map instantiation (drop l.instance-index l.instances))
    ≡ map (renamed_instantiation (renaming l.naming)) (map instantiation l.instances)
