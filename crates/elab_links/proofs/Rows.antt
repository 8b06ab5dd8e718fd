-- Arguments that hold vectors, as contracts see them.
use Rattle.std.specs.Prelude.{ℕ, map, Vec}
use Rattle.std.specs.declared.alloc.Global.{Global}
use Rattle.std.proofs.Common.{◌≡◌, ◌∙◌, ap}
use Rattle.rtl_tree.specs.declared.tree.expr.Expr.{Expr}
use Rattle.rtl_tree.specs.declared.tree.expr.Expr.TheVariants as expr
use Rattle.rtl_tree.specs.TreeExpr.{formula, formula_row}
use Rattle.rtl_tree.proofs.TreeViews.{concat_is}
use Rattle.elab_items.specs.elab_scope.Names.{Meanings}
use Rattle.elab_links.specs.Drivable.{all_covers_of, all_have_nets, covers_of, has_nets}

pub concat_nets : (scope : Meanings) (at : ℕ) (parts : Vec Expr Global) (e : Expr) → e ≡ expr.Concat at parts → has_nets scope (formula e) ≡ all_have_nets scope (formula_row (map formula parts.items))
concat_nets scope at parts e is =
    ap (λ e. has_nets scope (formula e)) is ∙ ap (has_nets scope) (concat_is at parts)

pub concat_covers : (scope : Meanings) (at : ℕ) (parts : Vec Expr Global) (e : Expr) → e ≡ expr.Concat at parts → covers_of scope (formula e) ≡ all_covers_of scope (formula_row (map formula parts.items))
concat_covers scope at parts e is =
    ap (λ e. covers_of scope (formula e)) is ∙ ap (covers_of scope) (concat_is at parts)
