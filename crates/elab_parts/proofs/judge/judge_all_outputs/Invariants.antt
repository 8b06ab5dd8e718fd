use Rattle.std.proofs.Common.{◌≡◌, map, drop}
use Rattle.std.specs.Option.{option_map}
use Rattle.rtl_tree.specs.TreeItem.{gate_drive}
use Rattle.rtl_tree.specs.TreeStmt.{pause}
use Rattle.elab_body.specs.elab_scope.Names.{meanings}
use Rattle.elab_body.specs.Courses.{course}
use Rattle.elab_body.specs.Steps.{passed}
use Rattle.elab_parts.specs.Gates.{assignments_of}
use Rattle.elab_parts.specs.Items.{drive_steps}
use Rattle.elab_parts.proofs.judge.judge_all_outputs.Given as goal

abbrev pub invariant-loop-drive : goal.invariant-loop-drive
invariant-loop-drive l =
    passed (course l.so_far) (drive_steps (meanings l.names) (option_map pause l.delay) (assignments_of (map gate_drive (drop l.drive-index l.drives))))
    ≡ passed (course l.initial.so_far) (drive_steps (meanings l.names) (option_map pause l.delay) (assignments_of (map gate_drive l.drives)))
