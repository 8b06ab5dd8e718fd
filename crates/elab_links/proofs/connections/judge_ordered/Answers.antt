use Rattle.std.proofs.Common.{◌∙◌, ap, sym, map, drop, length, ◌+◌}
use Rattle.std.specs.Option.{option_map}
use Rattle.std.specs.List.{slice_get}
use Rattle.rtl_tree.specs.TreeExpr.{formula}
use Rattle.rtl_tree.specs.TreeItem.{positional}
use Rattle.elab_items.specs.elab_scope.Faults.{Port, after, refusal}
use Rattle.elab_items.specs.elab_scope.Names.{meanings}
use Rattle.elab_links.specs.Connections.{ordered_link_faults, placed_faults}
use Rattle.elab_links.specs.Parameters.{surplus_faults}
use Rattle.elab_links.specs.Ports.{sockets}
use Rattle.elab_links.proofs.Steps.{left_at, two_told}
use Rattle.elab_links.proofs.connections.judge_ordered.Goals as goal

pub loop-place-preserved : goal.loop-place-preserved
loop-place-preserved c =
    two_told
    (option_map refusal c.loop-place.best)
    (option_map refusal c.judge_count-best.result)
    (option_map refusal c.in_ok-best.best)
    (surplus_faults (length (sockets c.args.ports.now).order) c.loop-place.place c.index-arguments-place.result.at (Port c.args.child.now))
    (placed_faults (sockets c.args.ports.now) (meanings c.args.names.now) c.index-arguments-place.result.at (slice_get (sockets c.args.ports.now).order c.loop-place.place) (option_map formula c.index-arguments-place.result.value))
    (ordered_link_faults c.args.child.now (sockets c.args.ports.now) (meanings c.args.names.now) (c.loop-place.place + 1) (map positional (drop (c.loop-place.place + 1) c.args.arguments.now)))
    c.judge_count-best.ensures
    c.in_ok-best.ensures
    ∙ (ap
    (λ arguments. after (option_map refusal c.loop-place.best) (ordered_link_faults c.args.child.now (sockets c.args.ports.now) (meanings c.args.names.now) c.loop-place.place (map positional arguments)))
    (sym (left_at c.args.arguments.now c.loop-place.place c.index-arguments-place.result c.loop-place-test.true c.index-arguments-place.is))
    ∙ c.loop-place.invariant)
