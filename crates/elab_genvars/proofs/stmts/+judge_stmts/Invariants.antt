use Rattle.std.proofs.Common.{◌≡◌, map, drop}
use Rattle.std.specs.List.{flat_map}
use Rattle.std.specs.Option.{option_map}
use Rattle.rtl_tree.specs.TreeStmt.{action, branch}
use Rattle.elab_scope.specs.Faults.{after}
use Rattle.elab_genvars.specs.Genvars.{told_of, action_genvars, branch_genvars}
use Rattle.elab_genvars.proofs.stmts.+judge_stmts.Given as goal

abbrev pub invariant-judge_stmts-loop-stmt : goal.invariant-judge_stmts-loop-stmt
invariant-judge_stmts-loop-stmt g l =
    let uses = action_genvars (g.S.Sorts.sorts l.names) in
    after (option_map told_of l.best) (flat_map uses (map action (drop l.stmt-index l.all)))
    ≡ after (option_map told_of l.initial.best) (flat_map uses (map action l.all))

abbrev pub invariant-judge_case_items-loop-item : goal.invariant-judge_case_items-loop-item
invariant-judge_case_items-loop-item g l =
    let uses = branch_genvars (g.S.Sorts.sorts l.names) in
    after (option_map told_of l.best) (flat_map uses (map branch (drop l.item-index l.all)))
    ≡ after (option_map told_of l.initial.best) (flat_map uses (map branch l.all))
