use Rattle.std.proofs.Common.{◌≡◌, ◌++◌, map, drop}
use Rattle.rtl_tree.specs.TreeExpr.{identifier}
use Rattle.rtl_tree.specs.TreeModule.{header_port}
use Rattle.elab_links.specs.Ports.{port_name}
use Rattle.elab_links.proofs.ports.push_declared.Given as goal

abbrev pub invariant-loop-port : goal.invariant-loop-port
invariant-loop-port l =
    map (λ name. identifier name.now) l.order.items ++ map port_name (map header_port (drop l.port-index l.ports))
    ≡ map (λ name. identifier name.now) l.initial.order.items ++ map port_name (map header_port l.ports)
