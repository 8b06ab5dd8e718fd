use Rattle.std.proofs.Common.{◌≡◌, ◌++◌, map, drop}
use Rattle.rtl_tree.specs.TreeExpr.{formula, formula_row}
use Rattle.elab_standard.specs.Scopes.{scopes}
use Rattle.elab_standard.specs.Unsized.{operand_notes}
use Rattle.elab_standard.proofs.unsized_numbers.+unsized_numbers.Given as goal

abbrev pub invariant-push_operands-loop-part : goal.invariant-push_operands-loop-part
invariant-push_operands-loop-part l =
    l.made.items ++ operand_notes l.home (scopes l.kept) (formula_row (map formula (drop l.part-index l.parts)))
    ≡ l.initial.made.items ++ operand_notes l.home (scopes l.kept) (formula_row (map formula l.parts))
