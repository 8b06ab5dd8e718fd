-- The uses of targets and statements that hold vectors.
use Rattle.std.specs.Prelude.{ℕ, Bool, ◌∷◌, map, Vec, Box, Option}
use Rattle.std.specs.declared.alloc.Global.{Global}
use Rattle.std.proofs.Common.{◌≡◌, ◌∙◌, ap}
use Rattle.rtl_tree.specs.declared.tree.expr.Expr.{Expr}
use Rattle.rtl_tree.specs.declared.tree.names.Name.{Name}
use Rattle.rtl_tree.specs.declared.tree.stmt.CaseKind.{CaseKind}
use Rattle.rtl_tree.specs.declared.tree.stmt.CaseItem.{CaseItem}
use Rattle.rtl_tree.specs.declared.tree.stmt.Lvalue.{Lvalue}
use Rattle.rtl_tree.specs.declared.tree.stmt.Lvalue.TheVariants as lvalue
use Rattle.rtl_tree.specs.declared.tree.stmt.Stmt.{Stmt}
use Rattle.rtl_tree.specs.declared.tree.stmt.Stmt.TheVariants as stmt
use Rattle.rtl_tree.specs.TreeExpr.{formula, identifier}
use Rattle.rtl_tree.specs.TreeStmt.{action, action_row, branch, branch_row, target, target_row}
use Rattle.rtl_tree.proofs.TreeViews.{block_is, case_is, joined_is}
use Rattle.elab_standard.specs.Scopes.{Scopes}
use Rattle.elab_standard.specs.Uses.{Case}
use Rattle.elab_uses.specs.Bodies.{actions_uses, body_uses, branches_uses, loop_uses, parts_uses, target_uses}

pub joined_uses : (s : Scopes) (at : ℕ) (parts : Vec Lvalue Global) (l : Lvalue) → l ≡ lvalue.Concat at parts → target_uses s (target l) ≡ parts_uses s (target_row (map target parts.items))
joined_uses s at parts l is =
    ap (λ l. target_uses s (target l)) is ∙ ap (target_uses s) (joined_is at parts)

pub case_uses : (s : Scopes) (at : ℕ) (kind : CaseKind) (full parallel : Bool) (selector : Expr) (items : Vec CaseItem Global) (b : Stmt) → b ≡ stmt.Case at kind full parallel selector items → body_uses (action b) s ≡ (s, Case at (formula selector) (branch_row (map branch items.items))) ∷ branches_uses (branch_row (map branch items.items)) s
case_uses s at kind full parallel selector items b is =
    ap (λ b. body_uses (action b) s) is
    ∙ ap (λ a. body_uses a s) (case_is at kind full parallel selector items)

pub block_uses : (s : Scopes) (at : ℕ) (label : Option Name) (body : Vec Stmt Global) (b : Stmt) → b ≡ stmt.Block at label body → body_uses (action b) s ≡ actions_uses (action_row (map action body.items)) s
block_uses s at label body b is =
    ap (λ b. body_uses (action b) s) is ∙ ap (λ a. body_uses a s) (block_is at label body)

pub for_uses : (s : Scopes) (at : ℕ) (index : Name) (start condition : Expr) (stepped : Name) (step : Expr) (body : Box Stmt Global) (b : Stmt) → b ≡ stmt.For at index start condition stepped step body → body_uses (action b) s ≡ loop_uses (body_uses (action body.value)) s (record { at = at; index = identifier index; start = formula start; condition = formula condition; stepped = identifier stepped; step = formula step })
for_uses s at index start condition stepped step body b is = ap (λ b. body_uses (action b) s) is
