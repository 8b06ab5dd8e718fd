use Rattle.std.proofs.Common.{◌++◌, ◌∙◌, List, ap, map}
use Rattle.rtl_tree.specs.declared.tree.item.GateDrive.{GateDrive}
use Rattle.rtl_tree.specs.TreeExpr.{formula}
use Rattle.rtl_tree.specs.TreeItem.{gate_drive}
use Rattle.rtl_tree.specs.TreeStmt.{target}
use Rattle.rtl_flat.specs.Process.{Task, task}
use Rattle.elab_body.specs.elab_scope.Names.{meanings}
use Rattle.elab_parts.specs.Gates.{assignments_of, output_drives}
use Rattle.elab_parts.specs.Tasks.{drive_tasks}
use Rattle.elab_parts.proofs.Gates.{tasks_append}
use Rattle.elab_parts.proofs.Rows.{more_made}
use Rattle.elab_parts.proofs.tasks.push_gates.Goals as goal

pub loop-drive-preserved : goal.loop-drive-preserved
loop-drive-preserved c =
    let scope = meanings c.args.names.now in
    let site = c.args.site in
    let row : List GateDrive → List Task = λ drives. drive_tasks site.file site.base c.args.instance scope (assignments_of (map gate_drive drives)) in
    let own : GateDrive → List Task = λ one. drive_tasks site.file site.base c.args.instance scope (output_drives (formula one.value) (map target one.outputs.items)) in
    more_made row own (λ one all. tasks_append site.file site.base c.args.instance scope (output_drives (formula one.value) (map target one.outputs.items)) (assignments_of (map gate_drive all))) (map task c.loop-drive.processes.items) (map task c.push_outputs.new.processes.items) c.args.drives.now c.loop-drive.drive-index c.drive-item.result _ c.loop-drive-test.true c.drive-item.is
    (c.in_ok-push_outputs.ensures ∙ ap (λ outputs. map task c.loop-drive.processes.items ++ drive_tasks site.file site.base c.args.instance scope (output_drives (formula c.drive-item.result.value) (map target outputs))) c.deref.ensures.value)
    c.loop-drive.invariant
