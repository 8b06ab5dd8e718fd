-- The uses of names in trees that hold vectors.
use Rattle.std.specs.Prelude.{Bool, Option, ℕ, List, [], ◌∷◌, ◌++◌, map, Vec, Box}
use Rattle.std.specs.List.{flat_map}
use Rattle.std.specs.declared.alloc.Global.{Global}
use Rattle.std.proofs.Common.{◌≡◌, ◌∙◌, ap, refl}
use Rattle.rtl_tree.specs.declared.tree.expr.Expr.{Expr}
use Rattle.rtl_tree.specs.declared.tree.expr.Expr.TheVariants as expr
use Rattle.rtl_tree.specs.TreeExpr.{Formula, formula, formula_row}
use Rattle.rtl_tree.specs.declared.tree.names.Name.{Name}
use Rattle.rtl_tree.specs.declared.tree.stmt.Lvalue.{Lvalue}
use Rattle.rtl_tree.specs.declared.tree.stmt.Lvalue.TheVariants as lvalue
use Rattle.rtl_tree.specs.declared.tree.stmt.CaseKind.{CaseKind}
use Rattle.rtl_tree.specs.declared.tree.stmt.CaseItem.{CaseItem}
use Rattle.rtl_tree.specs.declared.tree.stmt.Stmt.{Stmt}
use Rattle.rtl_tree.specs.declared.tree.stmt.Stmt.TheVariants as stmt
use Rattle.rtl_tree.specs.TreeStmt.{Target, target, target_row, Action, action, action_row, Branch, branch, branch_row}
use Rattle.elab_scope.specs.Names.{Meanings}
use Rattle.elab_genvars.specs.Genvars.{formula_genvars, formulas_genvars, target_genvars, targets_genvars, action_genvars, actions_genvars, branch_genvars, branches_genvars}
use Rattle.rtl_tree.proofs.TreeViews.{concat_is, repeat_is, joined_is, case_is, block_is}

formula_row_genvars : (scope : Meanings) (all : List Formula) → formulas_genvars scope (formula_row all) ≡ flat_map (formula_genvars scope) all
formula_row_genvars scope [] = refl
formula_row_genvars scope (first ∷ others) =
    ap (λ uses. formula_genvars scope first ++ uses) (formula_row_genvars scope others)

pub concat_genvars : (scope : Meanings) (at : ℕ) (parts : Vec Expr Global) (e : Expr) → e ≡ expr.Concat at parts → formula_genvars scope (formula e) ≡ flat_map (formula_genvars scope) (map formula parts.items)
concat_genvars scope at parts e is =
    ap (λ e. formula_genvars scope (formula e)) is
    ∙ ap (formula_genvars scope) (concat_is at parts)
    ∙ formula_row_genvars scope (map formula parts.items)

pub repeat_genvars : (scope : Meanings) (at : ℕ) (times : Box Expr Global) (parts : Vec Expr Global) (e : Expr) → e ≡ expr.Repeat at times parts → formula_genvars scope (formula e) ≡ formula_genvars scope (formula times.value) ++ flat_map (formula_genvars scope) (map formula parts.items)
repeat_genvars scope at times parts e is =
    ap (λ e. formula_genvars scope (formula e)) is
    ∙ ap (formula_genvars scope) (repeat_is at times parts)
    ∙ ap (λ uses. formula_genvars scope (formula times.value) ++ uses) (formula_row_genvars scope (map formula parts.items))

target_row_genvars : (scope : Meanings) (all : List Target) → targets_genvars scope (target_row all) ≡ flat_map (target_genvars scope) all
target_row_genvars scope [] = refl
target_row_genvars scope (first ∷ others) =
    ap (λ uses. target_genvars scope first ++ uses) (target_row_genvars scope others)

pub joined_genvars : (scope : Meanings) (at : ℕ) (parts : Vec Lvalue Global) (l : Lvalue) → l ≡ lvalue.Concat at parts → target_genvars scope (target l) ≡ flat_map (target_genvars scope) (map target parts.items)
joined_genvars scope at parts l is =
    ap (λ l. target_genvars scope (target l)) is
    ∙ ap (target_genvars scope) (joined_is at parts)
    ∙ target_row_genvars scope (map target parts.items)

branch_row_genvars : (scope : Meanings) (all : List Branch) → branches_genvars scope (branch_row all) ≡ flat_map (branch_genvars scope) all
branch_row_genvars scope [] = refl
branch_row_genvars scope (first ∷ others) =
    ap (λ uses. branch_genvars scope first ++ uses) (branch_row_genvars scope others)

action_row_genvars : (scope : Meanings) (all : List Action) → actions_genvars scope (action_row all) ≡ flat_map (action_genvars scope) all
action_row_genvars scope [] = refl
action_row_genvars scope (first ∷ others) =
    ap (λ uses. action_genvars scope first ++ uses) (action_row_genvars scope others)

pub case_genvars : (scope : Meanings) (at : ℕ) (kind : CaseKind) (full parallel : Bool) (selector : Expr) (items : Vec CaseItem Global) (s : Stmt) → s ≡ stmt.Case at kind full parallel selector items → action_genvars scope (action s) ≡ formula_genvars scope (formula selector) ++ flat_map (branch_genvars scope) (map branch items.items)
case_genvars scope at kind full parallel selector items s is =
    ap (λ s. action_genvars scope (action s)) is
    ∙ ap (action_genvars scope) (case_is at kind full parallel selector items)
    ∙ ap (λ uses. formula_genvars scope (formula selector) ++ uses) (branch_row_genvars scope (map branch items.items))

pub block_genvars : (scope : Meanings) (at : ℕ) (label : Option Name) (body : Vec Stmt Global) (s : Stmt) → s ≡ stmt.Block at label body → action_genvars scope (action s) ≡ flat_map (action_genvars scope) (map action body.items)
block_genvars scope at label body s is =
    ap (λ s. action_genvars scope (action s)) is
    ∙ ap (action_genvars scope) (block_is at label body)
    ∙ action_row_genvars scope (map action body.items)
