use Rattle.std.proofs.Common.{◌∙◌, ap, sym, map, drop, List, ◌++◌, ◌+◌, Bor}
use Rattle.rtl_tree.specs.declared.tree.names.Name.{Name}
use Rattle.rtl_tree.specs.TreeExpr.{identifier}
use Rattle.elab_links.proofs.Steps.{left_at, pushed}
use Rattle.elab_links.proofs.ports.push_named.Goals as goal

pub loop-name-preserved : goal.loop-name-preserved
loop-name-preserved c =
    ap
    (λ (order : List (Bor Name)). map (λ name. identifier name.now) order ++ map identifier (drop (c.loop-name.name-index + 1) c.args.names.now))
    c.in_ok-push.ensures.items
    ∙ (pushed (λ (name : Bor Name). identifier name.now) _ _ _
    ∙ (ap
    (λ names. map (λ name. identifier name.now) c.loop-name.order.items ++ map identifier names)
    (sym (left_at c.args.names.now c.loop-name.name-index c.name-item.result c.loop-name-test.true c.name-item.is))
    ∙ c.loop-name.invariant))
