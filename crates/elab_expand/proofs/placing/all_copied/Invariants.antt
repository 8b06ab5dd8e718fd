use Rattle.std.proofs.Common.{◌≡◌, ◌++◌, map, drop}
use Rattle.rtl_tree.specs.TreeExpr.{identifier}
use Rattle.elab_expand.proofs.placing.all_copied.Given as goal

abbrev pub invariant-loop-name : goal.invariant-loop-name
invariant-loop-name l =
    map identifier l.made.items ++ map identifier (drop l.name-index l.names) ≡ map identifier l.names
