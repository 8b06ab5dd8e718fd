use Rattle.std.proofs.Common.{◌∙◌, ap, sym, map, drop, List, ◌++◌, ◌+◌, Bor}
use Rattle.rtl_tree.specs.declared.tree.names.Name.{Name}
use Rattle.rtl_tree.specs.TreeExpr.{identifier}
use Rattle.rtl_tree.specs.TreeModule.{header_port}
use Rattle.elab_links.specs.Ports.{port_name}
use Rattle.elab_links.proofs.Steps.{left_at, pushed}
use Rattle.elab_links.proofs.ports.push_declared.Goals as goal

pub loop-port-preserved : goal.loop-port-preserved
loop-port-preserved c =
    ap
    (λ (order : List (Bor Name)). map (λ name. identifier name.now) order ++ map port_name (map header_port (drop (c.loop-port.port-index + 1) c.args.ports.now)))
    c.in_ok-push.ensures.items
    ∙ (pushed (λ (name : Bor Name). identifier name.now) _ _ _
    ∙ (ap
    (λ ports. map (λ name. identifier name.now) c.loop-port.order.items ++ map port_name (map header_port ports))
    (sym (left_at c.args.ports.now c.loop-port.port-index c.port-item.result c.loop-port-test.true c.port-item.is))
    ∙ c.loop-port.invariant))
