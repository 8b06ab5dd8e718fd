use Rattle.std.proofs.Common.{List, map, refl}
use Rattle.std.specs.Option.{option_map}
use Rattle.rtl_tree.specs.declared.tree.item.Wire.{Wire}
use Rattle.rtl_tree.specs.TreeExpr.{formula, identifier}
use Rattle.rtl_tree.specs.TreeItem.{net}
use Rattle.elab_body.specs.elab_scope.Names.{meanings}
use Rattle.elab_body.specs.Courses.{course}
use Rattle.elab_body.specs.Steps.{Step}
use Rattle.elab_parts.specs.Items.{net_steps, value_steps}
use Rattle.elab_parts.proofs.Rows.{passed_more}
use Rattle.elab_parts.proofs.judge.judge_nets.Goals as goal

pub loop-wire-preserved : goal.loop-wire-preserved
loop-wire-preserved c =
    let scope = meanings c.args.names.now in
    let row : List Wire → List Step = λ wires. net_steps scope (map net wires) in
    let own : Wire → List Step = λ wire. value_steps scope (identifier wire.name) (option_map formula wire.value) in
    passed_more row own (λ wire wires. refl) (course c.loop-wire.so_far) (course c.judge_value-so_far.result) c.args.wires.now c.loop-wire.wire-index c.wire-item.result _ c.loop-wire-test.true c.wire-item.is c.judge_value-so_far.ensures c.loop-wire.invariant
