use Rattle.std.proofs.Common.{◌≡◌, List, map, drop}
use Rattle.std.specs.Option.{option_map}
use Rattle.rtl_tree.specs.declared.tree.stmt.Lvalue.{Lvalue}
use Rattle.rtl_tree.specs.TreeStmt.{Targets, target, target_row}
use Rattle.elab_scope.specs.declared.widths.Breadth.TheVariants.{Bits}
use Rattle.elab_scope.specs.Faults.{after, refusal}
use Rattle.elab_scope.specs.Names.{meanings}
use Rattle.elab_scope.specs.Targets.{joined_faults, targets_breadth}
use Rattle.elab_scope.specs.Widths.{beside}
use Rattle.elab_scope.proofs.targets.+judge_target.Given as goal

abbrev pub invariant-judge_joined-loop-part : goal.invariant-judge_joined-loop-part
invariant-judge_joined-loop-part l =
    let row : List Lvalue → Targets = λ parts. target_row (map target parts) in
    let rest : Targets = row (drop l.part-index l.parts) in
    (beside l.breadth (targets_breadth (meanings l.names) rest) ≡ targets_breadth (meanings l.names) (row l.parts))
    × (beside l.breadth (Bits 0) ≡ l.breadth)
    × (after (option_map refusal l.best) (joined_faults l.by (meanings l.names) rest) ≡ after (option_map refusal l.initial.best) (joined_faults l.by (meanings l.names) (row l.parts)))
