use Rattle.std.proofs.Common.{◌≡◌, ◌++◌, map, drop}
use Rattle.rtl_tree.specs.TreeExpr.{formula}
use Rattle.elab_renames.specs.Renames.{renamed_formula, renaming}
use Rattle.elab_renames.proofs.expressions.+expression.Given as goal

abbrev pub invariant-renamed_exprs-loop-e : goal.invariant-renamed_exprs-loop-e
invariant-renamed_exprs-loop-e l =
    map formula l.made.items ++ map (renamed_formula (renaming l.naming)) (map formula (drop l.e-index l.all))
    ≡ map (renamed_formula (renaming l.naming)) (map formula l.all)
