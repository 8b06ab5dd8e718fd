use Rattle.std.proofs.Common.{◌≡◌, ◌++◌, map, drop}
use Rattle.rtl_tree.specs.TreeItem.{net}
use Rattle.elab_items.specs.Declarations.{declaration, declared_net}
use Rattle.elab_items.proofs.entries.push_wires.Given as goal

abbrev pub invariant-loop-wire : goal.invariant-loop-wire
invariant-loop-wire l =
    map declaration l.entries.items ++ map (declared_net l.signed) (map net (drop l.wire-index l.wires))
    ≡ map declaration l.initial.entries.items ++ map (declared_net l.signed) (map net l.wires)
