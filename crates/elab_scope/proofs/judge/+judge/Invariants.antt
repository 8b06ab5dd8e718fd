use Rattle.std.proofs.Common.{◌≡◌, List, map, drop}
use Rattle.std.specs.Option.{option_map}
use Rattle.rtl_tree.specs.declared.tree.expr.Expr.{Expr}
use Rattle.rtl_tree.specs.TreeExpr.{Formulas, formula, formula_row}
use Rattle.elab_scope.specs.declared.widths.Breadth.TheVariants.{Bits}
use Rattle.elab_scope.specs.Expressions.{row_faults}
use Rattle.elab_scope.specs.Faults.{after, refusal}
use Rattle.elab_scope.specs.Names.{meanings}
use Rattle.elab_scope.specs.Own.{row_breadth}
use Rattle.elab_scope.specs.Widths.{beside}
use Rattle.elab_scope.proofs.judge.+judge.Given as goal

abbrev pub invariant-judge_row-loop-part : goal.invariant-judge_row-loop-part
invariant-judge_row-loop-part l =
    let row : List Expr → Formulas = λ parts. formula_row (map formula parts) in
    let rest : Formulas = row (drop l.part-index l.parts) in
    (beside l.breadth (row_breadth (meanings l.names) rest) ≡ row_breadth (meanings l.names) (row l.parts))
    × (beside l.breadth (Bits 0) ≡ l.breadth)
    × (after (option_map refusal l.best) (row_faults (meanings l.names) rest) ≡ after (option_map refusal l.initial.best) (row_faults (meanings l.names) (row l.parts)))
