use Rattle.std.proofs.Common.{◌++◌, List, map, refl}
use Rattle.std.specs.Option.{option_map}
use Rattle.rtl_tree.specs.declared.tree.stmt.Lvalue.{Lvalue}
use Rattle.rtl_tree.specs.TreeExpr.{formula}
use Rattle.rtl_tree.specs.TreeStmt.{pause, target}
use Rattle.elab_body.specs.elab_scope.Names.{meanings}
use Rattle.elab_body.specs.Bodies.{pause_steps}
use Rattle.elab_body.specs.Courses.{course}
use Rattle.elab_body.specs.Steps.{Step}
use Rattle.elab_parts.specs.Gates.{output_drives}
use Rattle.elab_parts.specs.Items.{assignment_steps, drive_steps}
use Rattle.elab_parts.proofs.Rows.{passed_more, passed_twice}
use Rattle.elab_parts.proofs.judge.judge_outputs.Goals as goal

pub loop-output-preserved : goal.loop-output-preserved
loop-output-preserved c =
    let scope = meanings c.args.names.now in
    let value = formula c.args.value.now in
    let before : List Step = pause_steps (option_map pause c.args.delay.now) in
    let row : List Lvalue → List Step = λ all. drive_steps scope (option_map pause c.args.delay.now) (output_drives value (map target all)) in
    let own : Lvalue → List Step = λ one. assignment_steps scope (target one) value in
    passed_more row (λ one. before ++ own one) (λ one all. refl) (course c.loop-output.so_far) (course c.in_ok-so_far.so_far) c.args.outputs.now c.loop-output.output-index c.output-item.result _ c.loop-output-test.true c.output-item.is
    (passed_twice (course c.loop-output.so_far) (course c.paused.result) (course c.in_ok-so_far.so_far) before (own c.output-item.result) c.paused.ensures c.in_ok-so_far.ensures)
    c.loop-output.invariant
