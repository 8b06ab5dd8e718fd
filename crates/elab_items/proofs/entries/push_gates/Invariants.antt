use Rattle.std.proofs.Common.{◌≡◌, ◌++◌, map, drop}
use Rattle.rtl_tree.specs.TreeExpr.{identifier}
use Rattle.elab_items.specs.Declarations.{declaration, declared_gate}
use Rattle.elab_items.proofs.entries.push_gates.Given as goal

abbrev pub invariant-loop-name : goal.invariant-loop-name
invariant-loop-name l =
    map declaration l.entries.items ++ map declared_gate (map identifier (drop l.name-index l.names))
    ≡ map declaration l.initial.entries.items ++ map declared_gate (map identifier l.names)
