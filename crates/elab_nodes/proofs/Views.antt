-- The nodes of trees that hold vectors.
use Rattle.std.specs.Prelude.{ℕ, ◌+◌, map, Vec, Box}
use Rattle.std.specs.declared.alloc.Global.{Global}
use Rattle.std.proofs.Common.{◌≡◌, ◌∙◌, ap}
use Rattle.rtl_tree.specs.declared.tree.expr.Expr.{Expr}
use Rattle.rtl_tree.specs.declared.tree.expr.Expr.TheVariants as expr
use Rattle.rtl_tree.specs.declared.tree.stmt.Lvalue.{Lvalue}
use Rattle.rtl_tree.specs.declared.tree.stmt.Lvalue.TheVariants as lvalue
use Rattle.rtl_tree.specs.TreeExpr.{formula, formula_row}
use Rattle.rtl_tree.specs.TreeStmt.{target, target_row}
use Rattle.rtl_tree.proofs.TreeViews.{concat_is, joined_is, repeat_is}
use Rattle.elab_scope.specs.Names.{Meanings}
use Rattle.elab_nodes.specs.Nodes.{node_count, row_count}
use Rattle.elab_nodes.specs.Totals.{target_count, targets_count}

pub concat_count : (scope : Meanings) (at : ℕ) (parts : Vec Expr Global) (e : Expr) → e ≡ expr.Concat at parts → node_count scope (formula e) ≡ 1 + row_count scope (formula_row (map formula parts.items))
concat_count scope at parts e is =
    ap (λ e. node_count scope (formula e)) is ∙ ap (node_count scope) (concat_is at parts)

pub repeat_count : (scope : Meanings) (at : ℕ) (times : Box Expr Global) (parts : Vec Expr Global) (e : Expr) → e ≡ expr.Repeat at times parts → node_count scope (formula e) ≡ 2 + row_count scope (formula_row (map formula parts.items))
repeat_count scope at times parts e is =
    ap (λ e. node_count scope (formula e)) is ∙ ap (node_count scope) (repeat_is at times parts)

pub joined_count : (scope : Meanings) (at : ℕ) (parts : Vec Lvalue Global) (l : Lvalue) → l ≡ lvalue.Concat at parts → target_count scope (target l) ≡ targets_count scope (target_row (map target parts.items))
joined_count scope at parts l is =
    ap (λ l. target_count scope (target l)) is ∙ ap (target_count scope) (joined_is at parts)
