use Rattle.std.proofs.Common.{◌≡◌, map, drop}
use Rattle.rtl_tree.specs.TreeItem.{net}
use Rattle.elab_body.specs.elab_scope.Names.{meanings}
use Rattle.elab_body.specs.Courses.{course}
use Rattle.elab_body.specs.Steps.{passed}
use Rattle.elab_parts.specs.Items.{net_steps}
use Rattle.elab_parts.proofs.judge.judge_nets.Given as goal

abbrev pub invariant-loop-wire : goal.invariant-loop-wire
invariant-loop-wire l =
    passed (course l.so_far) (net_steps (meanings l.names) (map net (drop l.wire-index l.wires)))
    ≡ passed (course l.initial.so_far) (net_steps (meanings l.names) (map net l.wires))
