use Rattle.std.proofs.Common.{◌≡◌, List, map, drop}
use Rattle.rtl_tree.specs.declared.tree.expr.Expr.{Expr}
use Rattle.rtl_tree.specs.TreeExpr.{formula, formula_row}
use Rattle.elab_scope.specs.declared.widths.Breadth.{Breadth}
use Rattle.elab_scope.specs.declared.widths.Breadth.TheVariants.{Bits}
use Rattle.elab_scope.specs.Names.{meanings}
use Rattle.elab_scope.specs.Own.{row_breadth}
use Rattle.elab_scope.specs.Widths.{beside}
use Rattle.elab_scope.proofs.own.+own_breadth.Given as goal

abbrev pub invariant-row_breadth-loop-part : goal.invariant-row_breadth-loop-part
invariant-row_breadth-loop-part l =
    let row : List Expr → Breadth = λ parts. row_breadth (meanings l.names) (formula_row (map formula parts)) in
    (beside l.all (row (drop l.part-index l.parts)) ≡ row l.parts)
    × (beside l.all (Bits 0) ≡ l.all)
