use Rattle.std.proofs.Common.{List, map, refl}
use Rattle.std.specs.Option.{option_map}
use Rattle.rtl_tree.specs.declared.tree.item.Wire.{Wire}
use Rattle.rtl_tree.specs.TreeExpr.{formula, identifier}
use Rattle.rtl_tree.specs.TreeItem.{net}
use Rattle.rtl_flat.specs.Process.{Task, task}
use Rattle.elab_body.specs.elab_scope.Names.{meanings}
use Rattle.elab_parts.specs.Tasks.{net_tasks, value_tasks}
use Rattle.elab_parts.proofs.Rows.{more_made}
use Rattle.elab_parts.proofs.tasks.push_nets.Goals as goal

pub loop-wire-preserved : goal.loop-wire-preserved
loop-wire-preserved c =
    let scope = meanings c.args.names.now in
    let site = c.args.site in
    let row : List Wire → List Task = λ wires. net_tasks site.file site.base c.args.instance scope (map net wires) in
    let own : Wire → List Task = λ wire. value_tasks site.file site.base c.args.instance scope (identifier wire.name) (option_map formula wire.value) in
    more_made row own (λ wire wires. refl) (map task c.loop-wire.processes.items) (map task c.push_value.new.processes.items) c.args.wires.now c.loop-wire.wire-index c.wire-item.result _ c.loop-wire-test.true c.wire-item.is c.in_ok-push_value.ensures c.loop-wire.invariant
