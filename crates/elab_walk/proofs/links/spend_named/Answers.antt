use Rattle.std.specs.Option.{option_map}
use Rattle.std.proofs.Common.{◌∙◌, List, ap, map, refl}
use Rattle.rtl_tree.specs.declared.tree.item.NamedArgument.{NamedArgument}
use Rattle.rtl_tree.specs.TreeExpr.{formula}
use Rattle.rtl_tree.specs.TreeItem.{associated}
use Rattle.elab_links.specs.elab_scope.Names.{meanings}
use Rattle.elab_parts.specs.elab_body.Courses.{course}
use Rattle.elab_parts.specs.elab_body.Steps.{Step, passed}
use Rattle.elab_parts.proofs.Rows.{passed_more}
use Rattle.elab_links.specs.Ports.{sockets}
use Rattle.elab_walk.specs.Links.{argument_steps, named_steps}
use Rattle.elab_walk.proofs.links.spend_named.Goals as goal

pub loop-argument-preserved : goal.loop-argument-preserved
loop-argument-preserved c =
    let ports = sockets c.args.ports.now in
    let scope = meanings c.args.names.now in
    let row : List NamedArgument → List Step = λ arguments. named_steps ports scope (map associated arguments) in
    let own : NamedArgument → List Step = λ one. argument_steps scope one.at (ports.direction one.name.text) (option_map formula one.value) in
    passed_more row own (λ one others. refl) (course c.loop-argument.so_far) (course c.spend_argument-so_far.result) c.args.arguments.now c.loop-argument.argument-index c.argument-item.result _ c.loop-argument-test.true c.argument-item.is
    (c.spend_argument-so_far.ensures
    ∙ ap (λ direction. passed (course c.loop-argument.so_far) (argument_steps scope c.argument-item.result.at direction (option_map formula c.argument-item.result.value))) c.direction-direction.ensures)
    c.loop-argument.invariant
