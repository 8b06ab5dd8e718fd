use Rattle.std.proofs.Common.{◌≡◌, map, drop}
use Rattle.std.specs.Option.{option_map}
use Rattle.rtl_tree.specs.TreeExpr.{formula}
use Rattle.rtl_tree.specs.TreeStmt.{pause, target}
use Rattle.elab_body.specs.elab_scope.Names.{meanings}
use Rattle.elab_body.specs.Courses.{course}
use Rattle.elab_body.specs.Steps.{passed}
use Rattle.elab_parts.specs.Gates.{output_drives}
use Rattle.elab_parts.specs.Items.{drive_steps}
use Rattle.elab_parts.proofs.judge.judge_outputs.Given as goal

abbrev pub invariant-loop-output : goal.invariant-loop-output
invariant-loop-output l =
    passed (course l.so_far) (drive_steps (meanings l.names) (option_map pause l.delay) (output_drives (formula l.value) (map target (drop l.output-index l.outputs))))
    ≡ passed (course l.initial.so_far) (drive_steps (meanings l.names) (option_map pause l.delay) (output_drives (formula l.value) (map target l.outputs)))
