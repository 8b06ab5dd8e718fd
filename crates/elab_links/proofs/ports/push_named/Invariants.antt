use Rattle.std.proofs.Common.{◌≡◌, ◌++◌, map, drop}
use Rattle.rtl_tree.specs.TreeExpr.{identifier}
use Rattle.elab_links.proofs.ports.push_named.Given as goal

abbrev pub invariant-loop-name : goal.invariant-loop-name
invariant-loop-name l =
    map (λ name. identifier name.now) l.order.items ++ map identifier (drop l.name-index l.names)
    ≡ map (λ name. identifier name.now) l.initial.order.items ++ map identifier l.names
