use Rattle.std.proofs.Common.{◌≡◌, ◌++◌, map, drop}
use Rattle.rtl_tree.specs.TreeItem.{net}
use Rattle.elab_renames.specs.Renames.{renamed_net, renaming}
use Rattle.elab_renames.proofs.declarations.renamed_wires.Given as goal

abbrev pub invariant-loop-wire : goal.invariant-loop-wire
invariant-loop-wire l =
    map net l.made.items ++ map (renamed_net (renaming l.naming)) (map net (drop l.wire-index l.wires))
    ≡ map (renamed_net (renaming l.naming)) (map net l.wires)
