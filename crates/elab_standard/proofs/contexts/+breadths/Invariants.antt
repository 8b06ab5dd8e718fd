use Rattle.std.proofs.Common.{◌≡◌, List, map, drop}
use Rattle.rtl_tree.specs.declared.tree.expr.Expr.{Expr}
use Rattle.rtl_tree.specs.TreeExpr.{formula, formula_row}
use Rattle.elab_walk.specs.elab_scope.declared.widths.Breadth.{Breadth}
use Rattle.elab_walk.specs.elab_scope.declared.widths.Breadth.TheVariants.{Bits}
use Rattle.elab_walk.specs.elab_scope.Own.{row_breadth}
use Rattle.elab_walk.specs.elab_scope.Widths.{beside}
use Rattle.elab_standard.specs.Reads.{read_by}
use Rattle.elab_standard.specs.Scopes.{scopes}
use Rattle.elab_standard.proofs.contexts.+breadths.Given as goal

abbrev pub invariant-row_breadth-loop-part : goal.invariant-row_breadth-loop-part
invariant-row_breadth-loop-part l =
    let row : List Expr → Breadth = λ parts. row_breadth (read_by l.by (scopes l.kept)) (formula_row (map formula parts)) in
    (beside l.all (row (drop l.part-index l.parts)) ≡ row l.parts)
    × (beside l.all (Bits 0) ≡ l.all)
