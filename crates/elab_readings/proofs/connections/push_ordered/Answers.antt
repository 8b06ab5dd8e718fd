use Rattle.std.proofs.Common.{◌∙◌, ap, sym, map, ◌++◌}
use Rattle.rtl_tree.specs.TreeItem.{positional}
use Rattle.rtl_tree.specs.TreeModule.{header}
use Rattle.elab_uses.specs.elab_links.Ports.{port_names}
use Rattle.elab_readings.specs.Connections.{ordered_notes}
use Rattle.elab_readings.specs.Views.{ends}
use Rattle.elab_uses.proofs.elab_links_proofs.Steps.{joined_on, left_at}
use Rattle.elab_readings.proofs.connections.push_ordered.Goals as goal

pub loop-place-preserved : goal.loop-place-preserved
loop-place-preserved c =
    joined_on _ _ _ _ c.in_ok-push_placed.ensures
    ∙ (ap
    (λ arguments. c.loop-place.made.items ++ ordered_notes (port_names (header c.args.ports.now)) (ends c.args.sides) c.loop-place.place (map positional arguments))
    (sym (left_at c.args.arguments.now c.loop-place.place c.index-arguments-place.result c.loop-place-test.true c.index-arguments-place.is))
    ∙ c.loop-place.invariant)
