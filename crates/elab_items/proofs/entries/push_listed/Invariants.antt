use Rattle.std.proofs.Common.{◌≡◌, ◌++◌, map, drop}
use Rattle.rtl_tree.specs.TreeExpr.{identifier}
use Rattle.elab_items.specs.Declarations.{declaration, Listed}
use Rattle.elab_items.proofs.entries.push_listed.Given as goal

abbrev pub invariant-loop-name : goal.invariant-loop-name
invariant-loop-name l =
    map declaration l.entries.items ++ map Listed (map identifier (drop l.name-index l.names))
    ≡ map declaration l.initial.entries.items ++ map Listed (map identifier l.names)
