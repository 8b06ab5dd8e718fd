use Rattle.std.proofs.Common.{◌≡◌, ◌++◌, map, drop}
use Rattle.rtl_tree.specs.TreeItem.{drive}
use Rattle.rtl_flat.specs.Process.{task}
use Rattle.elab_body.specs.elab_scope.Names.{meanings}
use Rattle.elab_parts.specs.Tasks.{drive_tasks}
use Rattle.elab_parts.proofs.tasks.push_drives.Given as goal

abbrev pub invariant-loop-assignment : goal.invariant-loop-assignment
invariant-loop-assignment l =
    map task l.processes.items ++ drive_tasks l.site.file l.site.base l.instance (meanings l.names) (map drive (drop l.assignment-index l.assignments))
    ≡ map task l.initial.processes.items ++ drive_tasks l.site.file l.site.base l.instance (meanings l.names) (map drive l.assignments)
