use Rattle.std.proofs.Common.{List, map, refl}
use Rattle.rtl_tree.specs.declared.tree.item.Instance.{Instance}
use Rattle.rtl_tree.specs.TreeItem.{association, instantiation}
use Rattle.elab_links.specs.elab_scope.Names.{meanings}
use Rattle.elab_parts.specs.elab_body.Courses.{course}
use Rattle.elab_parts.specs.elab_body.Steps.{Step}
use Rattle.elab_parts.proofs.Rows.{passed_more}
use Rattle.elab_links.specs.Ports.{sockets}
use Rattle.elab_walk.specs.Links.{connection_steps, instantiations_steps}
use Rattle.elab_walk.proofs.links.spend_instances.Goals as goal

pub loop-instance-preserved : goal.loop-instance-preserved
loop-instance-preserved c =
    let ports = sockets c.args.ports.now in
    let scope = meanings c.args.names.now in
    let row : List Instance → List Step = λ instances. instantiations_steps ports scope (map instantiation instances) in
    let own : Instance → List Step = λ one. connection_steps ports scope (association one.connections) in
    passed_more row own (λ one others. refl) (course c.loop-instance.so_far) (course c.spend_connections-so_far.result) c.args.instances.now c.loop-instance.instance-index c.instance-item.result _ c.loop-instance-test.true c.instance-item.is c.spend_connections-so_far.ensures c.loop-instance.invariant
