use Rattle.std.proofs.Common.{◌≡◌, ◌-◌, ◌^◌, map, max, min, drop}
use Rattle.text_grammar.specs.Depth.{action_depth, branch_depth, greatest}
use Rattle.rtl_tree.specs.TreeStmt.{action, branch}
use Rattle.text_grammar.proofs.nesting.stmts.+nested_stmts.Given as goal

abbrev pub invariant-stmts_depth-loop-stmt : goal.invariant-stmts_depth-loop-stmt
invariant-stmts_depth-loop-stmt l =
    max l.most (min (greatest action_depth (map action (drop l.stmt-index l.all))) (2 ^ 32 - 1))
    ≡ min (greatest action_depth (map action l.all)) (2 ^ 32 - 1)

abbrev pub invariant-case_items_depth-loop-item : goal.invariant-case_items_depth-loop-item
invariant-case_items_depth-loop-item l =
    max l.most (min (greatest branch_depth (map branch (drop l.item-index l.all))) (2 ^ 32 - 1))
    ≡ min (greatest branch_depth (map branch l.all)) (2 ^ 32 - 1)
