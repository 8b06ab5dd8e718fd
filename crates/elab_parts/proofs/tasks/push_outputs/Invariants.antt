use Rattle.std.proofs.Common.{◌≡◌, ◌++◌, map, drop}
use Rattle.rtl_tree.specs.TreeExpr.{formula}
use Rattle.rtl_tree.specs.TreeStmt.{target}
use Rattle.rtl_flat.specs.Process.{task}
use Rattle.elab_body.specs.elab_scope.Names.{meanings}
use Rattle.elab_parts.specs.Gates.{output_drives}
use Rattle.elab_parts.specs.Tasks.{drive_tasks}
use Rattle.elab_parts.proofs.tasks.push_outputs.Given as goal

abbrev pub invariant-loop-output : goal.invariant-loop-output
invariant-loop-output l =
    map task l.processes.items ++ drive_tasks l.site.file l.site.base l.instance (meanings l.names) (output_drives (formula l.value) (map target (drop l.output-index l.outputs)))
    ≡ map task l.initial.processes.items ++ drive_tasks l.site.file l.site.base l.instance (meanings l.names) (output_drives (formula l.value) (map target l.outputs))
