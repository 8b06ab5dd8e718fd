use Rattle.std.proofs.Common.{◌∙◌, ap, sym, map, ◌++◌}
use Rattle.rtl_flat.specs.Process.{task}
use Rattle.rtl_tree.specs.TreeItem.{associated}
use Rattle.elab_flat.specs.Links.{named_tasks, sides}
use Rattle.elab_walk.specs.elab_links.Ports.{sockets}
use Rattle.elab_walk.proofs.elab_links_proofs.Steps.{joined_on, left_at}
use Rattle.elab_flat.proofs.links.push_named.Goals as goal

pub loop-argument-preserved : goal.loop-argument-preserved
loop-argument-preserved c =
    joined_on _ _ _ _ c.in_ok-push_value.ensures
    ∙ (ap
    (λ arguments. map task c.loop-argument.made.items ++ named_tasks (sockets c.args.ports.now) (sides c.args.ends) (map associated arguments))
    (sym (left_at c.args.arguments.now c.loop-argument.argument-index c.argument-item.result c.loop-argument-test.true c.argument-item.is))
    ∙ c.loop-argument.invariant)
