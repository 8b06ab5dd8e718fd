-- The sized trees of what holds vectors.
use Rattle.std.specs.Prelude.{ℕ, suc, ◌+◌, ◌<◌, ◌≤◌, false, List, [], ◌∷◌, ◌++◌, length, drop, map, Vec, Box}
use Rattle.std.specs.declared.alloc.Global.{Global}
use Rattle.std.proofs.Common.{◌≡◌, ◌∙◌, ap, sym, refl, get_or, add-one}
use Rattle.std.proofs.Math.Seq.{drop-cons}
use Rattle.std.proofs.lemmas.List.{map-append, drop_all}
use Rattle.rtl_tree.specs.declared.tree.expr.Expr.{Expr}
use Rattle.rtl_tree.specs.declared.tree.expr.Expr.TheVariants as expr
use Rattle.rtl_tree.specs.TreeExpr.{formula, formula_row}
use Rattle.rtl_tree.proofs.TreeViews.{concat_is, repeat_is}
use Rattle.rtl_const.specs.Constant.{constant}
use Rattle.rtl_flat.specs.declared.expr.SizedExpr.{SizedExpr}
use Rattle.rtl_flat.specs.declared.expr.Node.TheVariants as node
use Rattle.rtl_flat.proofs.Rows.{concat_is as form_is}
use Rattle.rtl_flat.specs.Expression.{Tree, Sized, Beside, Empty, beside}
use Rattle.rtl_flat.specs.Expression as tree
use Rattle.elab_scope.specs.declared.context.Context.{Context}
use Rattle.elab_scope.specs.Names.{Meanings, numbers_in}
use Rattle.elab_scope.specs.Own.{row_breadth}
use Rattle.elab_scope.specs.Widths.{fit, bits}
use Rattle.elab_scope.specs.Trees.{copies_of, own_context, row_tree, spot_in, tree_of}

pub concat_tree : (file base : ℕ) (scope : Meanings) (c : Context) (at : ℕ) (parts : Vec Expr Global) (e : Expr) → e ≡ expr.Concat at parts → tree_of file base scope (formula e) c ≡ Sized c.width c.signed (spot_in file at) (row_tree file base scope (formula_row (map formula parts.items)))
concat_tree file base scope c at parts e is =
    ap (λ e. tree_of file base scope (formula e) c) is
    ∙ ap (λ e. tree_of file base scope e c) (concat_is at parts)

pub repeat_tree : (file base : ℕ) (scope : Meanings) (c : Context) (at : ℕ) (times : Box Expr Global) (parts : Vec Expr Global) (e : Expr) → e ≡ expr.Repeat at times parts → tree_of file base scope (formula e) c ≡ Sized c.width c.signed (spot_in file at) (tree.Repeated (copies_of (constant (numbers_in scope) (formula times.value))) (Sized (bits (fit (row_breadth scope (formula_row (map formula parts.items))))) false (spot_in file at) (row_tree file base scope (formula_row (map formula parts.items)))))
repeat_tree file base scope c at times parts e is =
    ap (λ e. tree_of file base scope (formula e) c) is
    ∙ ap (λ e. tree_of file base scope e c) (repeat_is at times parts)

-- trees that stand before a row of further ones
abbrev pub before : List Tree → Tree → Tree
before [] others = others
before (first ∷ firsts) others = Beside first (before firsts others)

-- one tree more before the others
pub before_more : (firsts : List Tree) (one : Tree) (others : Tree) → before (firsts ++ one ∷ []) others ≡ before firsts (Beside one others)
before_more [] one others = refl
before_more (first ∷ firsts) one others = ap (Beside first) (before_more firsts one others)

pub before_none : (firsts : List Tree) → before firsts Empty ≡ beside firsts
before_none [] = refl
before_none (first ∷ firsts) = ap (Beside first) (before_none firsts)

-- the parts from one on
parts_at : (parts : List Expr) (k : ℕ) (item : Expr) → k < length parts → item ≡ get_or parts k item → drop k parts ≡ item ∷ drop (k + 1) parts
parts_at parts k item inside is =
    drop-cons parts k item inside
    ∙ ap (λ first. first ∷ drop (suc k) parts) (sym is)
    ∙ ap (λ n. item ∷ drop n parts) (sym (add-one k))

-- one part more
pub row_step : (file base : ℕ) (scope : Meanings) (parts : List Expr) (k : ℕ) (item : Expr) (made : List SizedExpr) (one : SizedExpr) → k < length parts → item ≡ get_or parts k item → tree.tree one ≡ tree_of file base scope (formula item) (own_context scope (formula item)) → before (map tree.tree (made ++ one ∷ [])) (row_tree file base scope (formula_row (map formula (drop (k + 1) parts)))) ≡ before (map tree.tree made) (row_tree file base scope (formula_row (map formula (drop k parts))))
row_step file base scope parts k item made one inside is same =
    let row : List Expr → Tree = λ parts. row_tree file base scope (formula_row (map formula parts)) in
    ap (λ trees. before trees (row (drop (k + 1) parts))) (map-append tree.tree made (one ∷ []))
    ∙ before_more (map tree.tree made) (tree.tree one) (row (drop (k + 1) parts))
    ∙ ap (λ t. before (map tree.tree made) (Beside t (row (drop (k + 1) parts)))) same
    ∙ ap (λ parts. before (map tree.tree made) (row parts)) (sym (parts_at parts k item inside is))

-- all parts are there
pub row_done : (file base : ℕ) (scope : Meanings) (parts : List Expr) (k : ℕ) (made : Vec SizedExpr Global) → length parts ≤ k → before (map tree.tree made.items) (row_tree file base scope (formula_row (map formula (drop k parts)))) ≡ row_tree file base scope (formula_row (map formula parts)) → tree.form (node.Concat made) ≡ row_tree file base scope (formula_row (map formula parts))
row_done file base scope parts k made done same =
    let row : List Expr → Tree = λ parts. row_tree file base scope (formula_row (map formula parts)) in
    form_is made
    ∙ sym (before_none (map tree.tree made.items))
    ∙ ap (λ parts. before (map tree.tree made.items) (row parts)) (sym (drop_all k parts done))
    ∙ same
