use Rattle.std.proofs.Common.{◌≡◌, map, drop}
use Rattle.rtl_tree.specs.TreeExpr.{formula, formula_row}
use Rattle.elab_standard.specs.Differing.{row_differs}
use Rattle.elab_standard.specs.Scopes.{scopes}
use Rattle.elab_standard.proofs.differing.+differing.Given as goal

abbrev pub invariant-row_differs-loop-part : goal.invariant-row_differs-loop-part
invariant-row_differs-loop-part l =
    row_differs (scopes l.kept) (formula_row (map formula (drop l.part-index l.parts)))
    ≡ row_differs (scopes l.kept) (formula_row (map formula l.parts))
