use Rattle.std.proofs.Common.{◌≡◌, map, drop}
use Rattle.rtl_tree.specs.TreeExpr.{formula, formula_row}
use Rattle.elab_standard.specs.Alike.{row_alike}
use Rattle.elab_standard.specs.Scopes.{scopes}
use Rattle.elab_standard.proofs.alike.+alike.Given as goal

abbrev pub invariant-row_alike-loop-part : goal.invariant-row_alike-loop-part
invariant-row_alike-loop-part l =
    row_alike (scopes l.kept) (formula_row (map formula (drop l.part-index l.parts)))
    ≡ row_alike (scopes l.kept) (formula_row (map formula l.parts))
