use Rattle.std.proofs.Common.{◌≡◌, map, drop}
use Rattle.rtl_tree.specs.TreeExpr.{formula}
use Rattle.elab_nodes.specs.elab_scope.Names.{meanings}
use Rattle.elab_body.specs.Bodies.{all_faults}
use Rattle.elab_body.specs.Courses.{course}
use Rattle.elab_body.specs.Steps.{faulty, passed}
use Rattle.elab_body.proofs.parts.labels.Given as goal

abbrev pub invariant-loop-label : goal.invariant-loop-label
invariant-loop-label l =
    passed (course l.so_far) (faulty (all_faults (meanings l.names) (map formula (drop l.label-index l.all))))
    ≡ passed (course l.initial.so_far) (faulty (all_faults (meanings l.names) (map formula l.all)))
