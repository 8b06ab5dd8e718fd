use Rattle.std.proofs.Common.{◌≡◌, ◌++◌, map, drop}
use Rattle.rtl_tree.specs.TreeItem.{net}
use Rattle.rtl_flat.specs.Process.{task}
use Rattle.elab_body.specs.elab_scope.Names.{meanings}
use Rattle.elab_parts.specs.Tasks.{net_tasks}
use Rattle.elab_parts.proofs.tasks.push_nets.Given as goal

abbrev pub invariant-loop-wire : goal.invariant-loop-wire
invariant-loop-wire l =
    map task l.processes.items ++ net_tasks l.site.file l.site.base l.instance (meanings l.names) (map net (drop l.wire-index l.wires))
    ≡ map task l.initial.processes.items ++ net_tasks l.site.file l.site.base l.instance (meanings l.names) (map net l.wires)
