use Rattle.std.proofs.Common.{◌≡◌, ◌++◌, map, drop}
use Rattle.rtl_tree.specs.TreeExpr.{formula, formula_row}
use Rattle.elab_standard.specs.Nested.{row_notes}
use Rattle.elab_standard.specs.Scopes.{scopes}
use Rattle.elab_standard.proofs.nested.+nested.Given as goal

abbrev pub invariant-push_row-loop-part : goal.invariant-push_row-loop-part
invariant-push_row-loop-part l =
    l.made.items ++ row_notes l.home (scopes l.kept) (formula_row (map formula (drop l.part-index l.parts)))
    ≡ l.initial.made.items ++ row_notes l.home (scopes l.kept) (formula_row (map formula l.parts))
