-- The breadths of parts beside one another, and of concatenations that hold vectors.
use Rattle.std.specs.Prelude.{ℕ, map, Vec, Box}
use Rattle.std.specs.declared.alloc.Global.{Global}
use Rattle.std.proofs.Common.{◌≡◌, ◌∙◌, ap, refl, arith}
use Rattle.std.proofs.lemmas.Bool.Decides.{nat_tests}
use Rattle.rtl_tree.specs.declared.tree.expr.Expr.{Expr}
use Rattle.rtl_tree.specs.declared.tree.expr.Expr.TheVariants as expr
use Rattle.rtl_tree.specs.TreeExpr.{Formulas, no_formulas, more_formulas, formula, formula_row}
use Rattle.rtl_tree.proofs.TreeViews.{concat_is, repeat_is}
use Rattle.rtl_const.specs.Constant.{constant}
use Rattle.elab_walk.specs.elab_scope.declared.widths.Breadth.{Breadth}
use Rattle.elab_walk.specs.elab_scope.declared.widths.Breadth.TheVariants.{Bits, Unfit, Hidden}
use Rattle.elab_walk.specs.elab_scope.Names.{Meanings, numbers_in}
use Rattle.elab_walk.specs.elab_scope.Own.{breadth, row_breadth}
use Rattle.elab_walk.specs.elab_scope.Widths.{fit, repeated, beside}

pub concat_breadth : (scope : Meanings) (at : ℕ) (parts : Vec Expr Global) (e : Expr) → e ≡ expr.Concat at parts → breadth scope (formula e) ≡ fit (row_breadth scope (formula_row (map formula parts.items)))
concat_breadth scope at parts e is =
    ap (λ e. breadth scope (formula e)) is ∙ ap (breadth scope) (concat_is at parts)

pub repeat_breadth : (scope : Meanings) (at : ℕ) (times : Box Expr Global) (parts : Vec Expr Global) (e : Expr) → e ≡ expr.Repeat at times parts → breadth scope (formula e) ≡ repeated (constant (numbers_in scope) (formula times.value)) (fit (row_breadth scope (formula_row (map formula parts.items))))
repeat_breadth scope at times parts e is =
    ap (λ e. breadth scope (formula e)) is ∙ ap (breadth scope) (repeat_is at times parts)

-- parts beside parts beside parts
pub beside_beside : (a b c : Breadth) → beside (beside a b) c ≡ beside a (beside b c)
beside_beside Hidden b c = refl
beside_beside Unfit Hidden c = refl
beside_beside (Bits m) Hidden c = refl
beside_beside Unfit Unfit Hidden = refl
beside_beside Unfit Unfit Unfit = refl
beside_beside Unfit Unfit (Bits k) = refl
beside_beside Unfit (Bits n) Hidden = refl
beside_beside Unfit (Bits n) Unfit = refl
beside_beside Unfit (Bits n) (Bits k) = grind (arith, nat_tests)
beside_beside (Bits m) Unfit Hidden = refl
beside_beside (Bits m) Unfit Unfit = refl
beside_beside (Bits m) Unfit (Bits k) = refl
beside_beside (Bits m) (Bits n) Hidden = grind (arith, nat_tests)
beside_beside (Bits m) (Bits n) Unfit = grind (arith, nat_tests)
beside_beside (Bits m) (Bits n) (Bits k) = grind (arith, nat_tests)

-- no part beside parts
pub none_beside : (a b : Breadth) → beside (Bits 0) (beside a b) ≡ beside a b
none_beside Hidden b = refl
none_beside Unfit Hidden = refl
none_beside Unfit Unfit = refl
none_beside Unfit (Bits n) = refl
none_beside (Bits m) Hidden = refl
none_beside (Bits m) Unfit = refl
none_beside (Bits m) (Bits n) = grind (arith, nat_tests)

-- parts beside no part
pub beside_none : (a b : Breadth) → beside (beside a b) (Bits 0) ≡ beside a b
beside_none Hidden b = refl
beside_none Unfit Hidden = refl
beside_none Unfit Unfit = refl
beside_none Unfit (Bits n) = refl
beside_none (Bits m) Hidden = refl
beside_none (Bits m) Unfit = refl
beside_none (Bits m) (Bits n) = grind (arith, nat_tests)

pub row_alone : (scope : Meanings) (row : Formulas) → beside (Bits 0) (row_breadth scope row) ≡ row_breadth scope row
row_alone scope no_formulas = refl
row_alone scope (more_formulas first others) = none_beside (breadth scope first) (row_breadth scope others)
