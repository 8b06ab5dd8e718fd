use Rattle.std.proofs.Common.{◌∙◌, ap, sym, map, ◌++◌}
use Rattle.rtl_flat.specs.Process.{task}
use Rattle.rtl_tree.specs.TreeItem.{positional}
use Rattle.elab_flat.specs.Links.{ordered_tasks, sides}
use Rattle.elab_walk.specs.elab_links.Ports.{sockets}
use Rattle.elab_walk.proofs.elab_links_proofs.Steps.{joined_on, left_at}
use Rattle.elab_flat.proofs.links.push_ordered.Goals as goal

pub loop-place-preserved : goal.loop-place-preserved
loop-place-preserved c =
    joined_on _ _ _ _ c.in_ok-push_placed.ensures
    ∙ (ap
    (λ arguments. map task c.loop-place.made.items ++ ordered_tasks (sockets c.args.ports.now) (sides c.args.ends) c.loop-place.place (map positional arguments))
    (sym (left_at c.args.arguments.now c.loop-place.place c.index-arguments-place.result c.loop-place-test.true c.index-arguments-place.is))
    ∙ c.loop-place.invariant)
