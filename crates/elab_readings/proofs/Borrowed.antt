-- Arguments that hold vectors, as contracts see them.
use Rattle.std.specs.Prelude.{ℕ, ◌||◌, map, Vec, Box}
use Rattle.std.specs.declared.alloc.Global.{Global}
use Rattle.std.specs.List.{flat_map}
use Rattle.std.proofs.Common.{◌≡◌, ◌∙◌, ap}
use Rattle.name_map.specs.Values.{Values}
use Rattle.rtl_tree.specs.declared.tree.expr.Expr.{Expr}
use Rattle.rtl_tree.specs.declared.tree.expr.Expr.TheVariants as expr
use Rattle.rtl_tree.specs.TreeExpr.{formula, formula_row}
use Rattle.rtl_tree.proofs.TreeViews.{concat_is, repeat_is}
use Rattle.elab_uses.specs.elab_scope.Names.{Meanings}
use Rattle.elab_readings.specs.Connections.{driven_numbers, names_late, row_driven_numbers, row_names_late}

pub concat_late : (scope : Meanings) (places : Values ℕ) (here at : ℕ) (parts : Vec Expr Global) (e : Expr) → e ≡ expr.Concat at parts → names_late scope places here (formula e) ≡ row_names_late scope places here (formula_row (map formula parts.items))
concat_late scope places here at parts e is =
    ap (λ e. names_late scope places here (formula e)) is ∙ ap (names_late scope places here) (concat_is at parts)

pub repeat_late : (scope : Meanings) (places : Values ℕ) (here at : ℕ) (times : Box Expr Global) (parts : Vec Expr Global) (e : Expr) → e ≡ expr.Repeat at times parts → names_late scope places here (formula e) ≡ (names_late scope places here (formula times.value) || row_names_late scope places here (formula_row (map formula parts.items)))
repeat_late scope places here at times parts e is =
    ap (λ e. names_late scope places here (formula e)) is
    ∙ ap (names_late scope places here) (repeat_is at times parts)

pub concat_driven : (at : ℕ) (parts : Vec Expr Global) (e : Expr) → e ≡ expr.Concat at parts → driven_numbers (formula e) ≡ row_driven_numbers (formula_row (map formula parts.items))
concat_driven at parts e is =
    ap (λ e. driven_numbers (formula e)) is ∙ ap driven_numbers (concat_is at parts)
