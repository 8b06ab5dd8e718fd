use Rattle.std.proofs.Common.{◌≡◌, map, drop}
use Rattle.std.specs.Option.{option_map}
use Rattle.rtl_tree.specs.TreeItem.{drive}
use Rattle.rtl_tree.specs.TreeStmt.{pause}
use Rattle.elab_body.specs.elab_scope.Names.{meanings}
use Rattle.elab_body.specs.Courses.{course}
use Rattle.elab_body.specs.Steps.{passed}
use Rattle.elab_parts.specs.Items.{drive_steps}
use Rattle.elab_parts.proofs.judge.judge_drives.Given as goal

abbrev pub invariant-loop-assignment : goal.invariant-loop-assignment
invariant-loop-assignment l =
    passed (course l.so_far) (drive_steps (meanings l.names) (option_map pause l.delay) (map drive (drop l.assignment-index l.assignments)))
    ≡ passed (course l.initial.so_far) (drive_steps (meanings l.names) (option_map pause l.delay) (map drive l.assignments))
