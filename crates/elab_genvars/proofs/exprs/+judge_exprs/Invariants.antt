use Rattle.std.proofs.Common.{◌≡◌, map, drop}
use Rattle.std.specs.List.{flat_map}
use Rattle.std.specs.Option.{option_map}
use Rattle.rtl_tree.specs.TreeExpr.{formula}
use Rattle.elab_scope.specs.Faults.{after}
use Rattle.elab_genvars.specs.Genvars.{told_of, formula_genvars}
use Rattle.elab_genvars.proofs.exprs.+judge_exprs.Given as goal

abbrev pub invariant-judge_exprs-loop-e : goal.invariant-judge_exprs-loop-e
invariant-judge_exprs-loop-e g l =
    let uses = formula_genvars (g.S.Sorts.sorts l.names) in
    after (option_map told_of l.best) (flat_map uses (map formula (drop l.e-index l.all)))
    ≡ after (option_map told_of l.initial.best) (flat_map uses (map formula l.all))
