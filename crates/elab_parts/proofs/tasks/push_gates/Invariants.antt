use Rattle.std.proofs.Common.{◌≡◌, ◌++◌, map, drop}
use Rattle.rtl_tree.specs.TreeItem.{gate_drive}
use Rattle.rtl_flat.specs.Process.{task}
use Rattle.elab_body.specs.elab_scope.Names.{meanings}
use Rattle.elab_parts.specs.Gates.{assignments_of}
use Rattle.elab_parts.specs.Tasks.{drive_tasks}
use Rattle.elab_parts.proofs.tasks.push_gates.Given as goal

abbrev pub invariant-loop-drive : goal.invariant-loop-drive
invariant-loop-drive l =
    map task l.processes.items ++ drive_tasks l.site.file l.site.base l.instance (meanings l.names) (assignments_of (map gate_drive (drop l.drive-index l.drives)))
    ≡ map task l.initial.processes.items ++ drive_tasks l.site.file l.site.base l.instance (meanings l.names) (assignments_of (map gate_drive l.drives))
