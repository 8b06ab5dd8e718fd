use Rattle.std.proofs.Common.{◌++◌, List, map, refl}
use Rattle.std.specs.Option.{option_map}
use Rattle.rtl_tree.specs.declared.tree.item.Assignment.{Assignment}
use Rattle.rtl_tree.specs.TreeExpr.{formula}
use Rattle.rtl_tree.specs.TreeItem.{drive}
use Rattle.rtl_tree.specs.TreeStmt.{pause, target}
use Rattle.elab_body.specs.elab_scope.Names.{meanings}
use Rattle.elab_body.specs.Bodies.{pause_steps}
use Rattle.elab_body.specs.Courses.{course}
use Rattle.elab_body.specs.Steps.{Step}
use Rattle.elab_parts.specs.Items.{assignment_steps, drive_steps}
use Rattle.elab_parts.proofs.Rows.{passed_more, passed_twice}
use Rattle.elab_parts.proofs.judge.judge_drives.Goals as goal

pub loop-assignment-preserved : goal.loop-assignment-preserved
loop-assignment-preserved c =
    let scope = meanings c.args.names.now in
    let before : List Step = pause_steps (option_map pause c.args.delay.now) in
    let row : List Assignment → List Step = λ all. drive_steps scope (option_map pause c.args.delay.now) (map drive all) in
    let own : Assignment → List Step = λ one. assignment_steps scope (target one.target) (formula one.value) in
    passed_more row (λ one. before ++ own one) (λ one all. refl) (course c.loop-assignment.so_far) (course c.in_ok-so_far.so_far) c.args.assignments.now c.loop-assignment.assignment-index c.assignment-item.result _ c.loop-assignment-test.true c.assignment-item.is
    (passed_twice (course c.loop-assignment.so_far) (course c.paused.result) (course c.in_ok-so_far.so_far) before (own c.assignment-item.result) c.paused.ensures c.in_ok-so_far.ensures)
    c.loop-assignment.invariant
