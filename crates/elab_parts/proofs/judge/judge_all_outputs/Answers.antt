use Rattle.std.proofs.Common.{◌∙◌, List, ap, map}
use Rattle.std.specs.Option.{option_map}
use Rattle.rtl_tree.specs.declared.tree.item.GateDrive.{GateDrive}
use Rattle.rtl_tree.specs.TreeExpr.{formula}
use Rattle.rtl_tree.specs.TreeItem.{gate_drive}
use Rattle.rtl_tree.specs.TreeStmt.{pause, target}
use Rattle.elab_body.specs.elab_scope.Names.{meanings}
use Rattle.elab_body.specs.Courses.{course}
use Rattle.elab_body.specs.Steps.{Step, passed}
use Rattle.elab_parts.specs.Gates.{assignments_of, output_drives}
use Rattle.elab_parts.specs.Items.{drive_steps}
use Rattle.elab_parts.proofs.Gates.{steps_append}
use Rattle.elab_parts.proofs.Rows.{passed_more}
use Rattle.elab_parts.proofs.judge.judge_all_outputs.Goals as goal

pub loop-drive-preserved : goal.loop-drive-preserved
loop-drive-preserved c =
    let scope = meanings c.args.names.now in
    let before = option_map pause c.args.delay.now in
    let row : List GateDrive → List Step = λ all. drive_steps scope before (assignments_of (map gate_drive all)) in
    let own : GateDrive → List Step = λ one. drive_steps scope before (output_drives (formula one.value) (map target one.outputs.items)) in
    passed_more row own (λ one all. steps_append scope before (output_drives (formula one.value) (map target one.outputs.items)) (assignments_of (map gate_drive all))) (course c.loop-drive.so_far) (course c.in_ok-so_far.so_far) c.args.drives.now c.loop-drive.drive-index c.drive-item.result _ c.loop-drive-test.true c.drive-item.is
    (c.in_ok-so_far.ensures ∙ ap (λ outputs. passed (course c.loop-drive.so_far) (drive_steps scope before (output_drives (formula c.drive-item.result.value) (map target outputs)))) c.deref.ensures.value)
    c.loop-drive.invariant
