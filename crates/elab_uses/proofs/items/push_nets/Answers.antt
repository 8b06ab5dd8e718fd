use Rattle.std.proofs.Common.{map, refl}
use Rattle.std.specs.Option.{option_map}
use Rattle.rtl_tree.specs.TreeExpr.{formula, identifier}
use Rattle.rtl_tree.specs.TreeItem.{net}
use Rattle.elab_standard.specs.Scopes.{scopes}
use Rattle.elab_uses.specs.Items.{net_uses, value_uses}
use Rattle.elab_uses.proofs.Rows.{more_noted}
use Rattle.elab_uses.proofs.items.push_nets.Goals as goal

pub loop-wire-preserved : goal.loop-wire-preserved
loop-wire-preserved c =
    let s = scopes c.args.scopes.now in
    more_noted c.args.home (λ one. value_uses s (identifier one.name) (option_map formula one.value)) (λ all. net_uses s (map net all)) (λ one all. refl) c.loop-wire.made.items _ c.args.wires.now c.loop-wire.wire-index c.wire-item.result _ c.loop-wire-test.true c.wire-item.is c.in_ok-push_net.ensures c.loop-wire.invariant
