use Rattle.std.proofs.Common.{◌∙◌, ap, sym, map, drop, ◌+◌}
use Rattle.std.specs.Option.{option_map}
use Rattle.rtl_tree.specs.TreeItem.{association, instantiation}
use Rattle.elab_items.specs.elab_scope.Faults.{after, refusal}
use Rattle.elab_items.specs.elab_scope.Names.{meanings}
use Rattle.elab_links.specs.Connections.{instantiation_faults, instantiations_faults}
use Rattle.elab_links.specs.Ports.{sockets}
use Rattle.elab_links.proofs.Steps.{left_at, one_told}
use Rattle.elab_links.proofs.connections.judge_instantiations.Goals as goal

pub loop-instance-preserved : goal.loop-instance-preserved
loop-instance-preserved c =
    one_told
    (option_map refusal c.loop-instance.best)
    (option_map refusal c.in_ok-best.best)
    (instantiation_faults c.args.child.now (sockets c.args.ports.now) (meanings c.args.names.now) (association c.instance-item.result.connections))
    (instantiations_faults c.args.child.now (sockets c.args.ports.now) (meanings c.args.names.now) (map instantiation (drop (c.loop-instance.instance-index + 1) c.args.instances.now)))
    c.in_ok-best.ensures
    ∙ (ap
    (λ instances. after (option_map refusal c.loop-instance.best) (instantiations_faults c.args.child.now (sockets c.args.ports.now) (meanings c.args.names.now) (map instantiation instances)))
    (sym (left_at c.args.instances.now c.loop-instance.instance-index c.instance-item.result c.loop-instance-test.true c.instance-item.is))
    ∙ c.loop-instance.invariant)
