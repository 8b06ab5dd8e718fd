use Rattle.std.proofs.Common.{◌≡◌, ◌-◌, ◌^◌, map, max, min, drop}
use Rattle.text_grammar.specs.Depth.{target_depth, greatest}
use Rattle.rtl_tree.specs.TreeStmt.{target}
use Rattle.text_grammar.proofs.nesting.stmts.+nested_targets.Given as goal

abbrev pub invariant-targets_depth-loop-lvalue : goal.invariant-targets_depth-loop-lvalue
invariant-targets_depth-loop-lvalue l =
    max l.most (min (greatest target_depth (map target (drop l.lvalue-index l.all))) (2 ^ 32 - 1))
    ≡ min (greatest target_depth (map target l.all)) (2 ^ 32 - 1)
