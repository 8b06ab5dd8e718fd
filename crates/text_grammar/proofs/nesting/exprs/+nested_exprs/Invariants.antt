use Rattle.std.proofs.Common.{◌≡◌, ◌-◌, ◌^◌, map, max, min, drop}
use Rattle.text_grammar.specs.Depth.{formula_depth, greatest}
use Rattle.rtl_tree.specs.TreeExpr.{formula}
use Rattle.text_grammar.proofs.nesting.exprs.+nested_exprs.Given as goal

abbrev pub invariant-exprs_depth-loop-e : goal.invariant-exprs_depth-loop-e
invariant-exprs_depth-loop-e l =
    max l.most (min (greatest formula_depth (map formula (drop l.e-index l.all))) (2 ^ 32 - 1))
    ≡ min (greatest formula_depth (map formula l.all)) (2 ^ 32 - 1)
