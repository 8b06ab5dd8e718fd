-- The size of trees that hold vectors.
use Rattle.std.specs.Prelude.{Bool, Option, ℕ, ◌+◌, List, [], ◌∷◌, map, Vec, Box}
use Rattle.std.specs.Option.{option_map}
use Rattle.std.specs.declared.alloc.Global.{Global}
use Rattle.std.proofs.Common.{◌≡◌, ◌∙◌, ap, refl}
use Rattle.rtl_tree.specs.declared.tree.expr.Expr.{Expr}
use Rattle.rtl_tree.specs.declared.tree.expr.Expr.TheVariants as expr
use Rattle.rtl_tree.specs.TreeExpr.{Formula, formula, formula_row, identifier}
use Rattle.rtl_tree.specs.declared.tree.names.Name.{Name}
use Rattle.rtl_tree.specs.declared.tree.stmt.Lvalue.{Lvalue}
use Rattle.rtl_tree.specs.declared.tree.stmt.Lvalue.TheVariants as lvalue
use Rattle.rtl_tree.specs.declared.tree.stmt.CaseKind.{CaseKind}
use Rattle.rtl_tree.specs.declared.tree.stmt.CaseItem.{CaseItem}
use Rattle.rtl_tree.specs.declared.tree.stmt.Stmt.{Stmt}
use Rattle.rtl_tree.specs.declared.tree.stmt.Stmt.TheVariants as stmt
use Rattle.rtl_tree.specs.TreeStmt.{Target, target, target_row, Action, action, action_row, Branch, branch, branch_row}
use Rattle.elab_sizes.specs.Sizes.{sizes, if_any, identifier_size, formula_size, formulas_size, target_size, targets_size, action_size, actions_size, branch_size, branches_size}
use Rattle.rtl_tree.proofs.TreeViews.{concat_is, repeat_is, joined_is, case_is, block_is}

formula_row_size : (all : List Formula) → formulas_size (formula_row all) ≡ sizes formula_size all
formula_row_size [] = refl
formula_row_size (first ∷ others) = ap (λ n. formula_size first + n) (formula_row_size others)

pub concat_size : (at : ℕ) (parts : Vec Expr Global) (e : Expr) → e ≡ expr.Concat at parts → formula_size (formula e) ≡ 1 + sizes formula_size (map formula parts.items)
concat_size at parts e is =
    ap (λ e. formula_size (formula e)) is
    ∙ ap formula_size (concat_is at parts)
    ∙ ap (λ n. 1 + n) (formula_row_size (map formula parts.items))

pub repeat_size : (at : ℕ) (times : Box Expr Global) (parts : Vec Expr Global) (e : Expr) → e ≡ expr.Repeat at times parts → formula_size (formula e) ≡ 1 + (formula_size (formula times.value) + sizes formula_size (map formula parts.items))
repeat_size at times parts e is =
    ap (λ e. formula_size (formula e)) is
    ∙ ap formula_size (repeat_is at times parts)
    ∙ ap (λ n. 1 + (formula_size (formula times.value) + n)) (formula_row_size (map formula parts.items))

target_row_size : (all : List Target) → targets_size (target_row all) ≡ sizes target_size all
target_row_size [] = refl
target_row_size (first ∷ others) = ap (λ n. target_size first + n) (target_row_size others)

pub joined_size : (at : ℕ) (parts : Vec Lvalue Global) (l : Lvalue) → l ≡ lvalue.Concat at parts → target_size (target l) ≡ 1 + sizes target_size (map target parts.items)
joined_size at parts l is =
    ap (λ l. target_size (target l)) is
    ∙ ap target_size (joined_is at parts)
    ∙ ap (λ n. 1 + n) (target_row_size (map target parts.items))

branch_row_size : (all : List Branch) → branches_size (branch_row all) ≡ sizes branch_size all
branch_row_size [] = refl
branch_row_size (first ∷ others) = ap (λ n. branch_size first + n) (branch_row_size others)

action_row_size : (all : List Action) → actions_size (action_row all) ≡ sizes action_size all
action_row_size [] = refl
action_row_size (first ∷ others) = ap (λ n. action_size first + n) (action_row_size others)

pub case_size : (at : ℕ) (kind : CaseKind) (full parallel : Bool) (selector : Expr) (items : Vec CaseItem Global) (s : Stmt) → s ≡ stmt.Case at kind full parallel selector items → action_size (action s) ≡ 1 + (formula_size (formula selector) + sizes branch_size (map branch items.items))
case_size at kind full parallel selector items s is =
    ap (λ s. action_size (action s)) is
    ∙ ap action_size (case_is at kind full parallel selector items)
    ∙ ap (λ n. 1 + (formula_size (formula selector) + n)) (branch_row_size (map branch items.items))

pub block_size : (at : ℕ) (label : Option Name) (body : Vec Stmt Global) (s : Stmt) → s ≡ stmt.Block at label body → action_size (action s) ≡ 1 + (if_any identifier_size (option_map identifier label) + sizes action_size (map action body.items))
block_size at label body s is =
    ap (λ s. action_size (action s)) is
    ∙ ap action_size (block_is at label body)
    ∙ ap (λ n. 1 + (if_any identifier_size (option_map identifier label) + n)) (action_row_size (map action body.items))
