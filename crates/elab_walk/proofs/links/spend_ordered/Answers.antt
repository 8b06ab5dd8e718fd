use Rattle.std.specs.List.{slice_get}
use Rattle.std.specs.Option.{option_map}
use Rattle.std.proofs.Common.{◌∙◌, ap, sym, map, drop, ◌+◌}
use Rattle.rtl_tree.specs.TreeExpr.{formula}
use Rattle.rtl_tree.specs.TreeItem.{positional}
use Rattle.elab_links.specs.elab_scope.Names.{meanings}
use Rattle.elab_parts.specs.elab_body.Courses.{course}
use Rattle.elab_parts.specs.elab_body.Steps.{passed}
use Rattle.elab_parts.proofs.elab_body_proofs.Passing.{passed_append}
use Rattle.elab_links.specs.Ports.{sockets}
use Rattle.elab_links.proofs.Steps.{left_at}
use Rattle.elab_walk.specs.Links.{ordered_steps, placed_steps}
use Rattle.elab_walk.proofs.links.spend_ordered.Goals as goal

pub loop-place-preserved : goal.loop-place-preserved
loop-place-preserved c =
    let ports = sockets c.args.ports.now in
    let scope = meanings c.args.names.now in
    let one = c.index-arguments-place.result in
    let own = placed_steps ports scope one.at (slice_get ports.order c.loop-place.place) (option_map formula one.value) in
    let rest = ordered_steps ports scope (c.loop-place.place + 1) (map positional (drop (c.loop-place.place + 1) c.args.arguments.now)) in
    ap (λ d. passed d rest) c.spend_placed-so_far.ensures
    ∙ sym (passed_append (course c.loop-place.so_far) own rest)
    ∙ ap
    (λ arguments. passed (course c.loop-place.so_far) (ordered_steps ports scope c.loop-place.place (map positional arguments)))
    (sym (left_at c.args.arguments.now c.loop-place.place one c.loop-place-test.true c.index-arguments-place.is))
    ∙ c.loop-place.invariant
