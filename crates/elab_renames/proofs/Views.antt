-- How trees that hold vectors are renamed.
use Rattle.std.specs.Prelude.{ℕ, Bool, List, map, Vec, Option, Box}
use Rattle.std.specs.Option.{option_map}
use Rattle.std.specs.declared.alloc.Global.{Global}
use Rattle.std.proofs.Common.{◌≡◌, ◌∙◌, ap}
use Rattle.rtl_tree.specs.declared.tree.expr.Expr.{Expr}
use Rattle.rtl_tree.specs.declared.tree.expr.Expr.TheVariants as expr
use Rattle.rtl_tree.specs.declared.tree.names.Name.{Name}
use Rattle.rtl_tree.specs.declared.tree.stmt.Lvalue.{Lvalue}
use Rattle.rtl_tree.specs.declared.tree.stmt.Lvalue.TheVariants as lvalue
use Rattle.rtl_tree.specs.declared.tree.stmt.CaseKind.{CaseKind}
use Rattle.rtl_tree.specs.declared.tree.stmt.CaseItem.{CaseItem}
use Rattle.rtl_tree.specs.declared.tree.stmt.Stmt.{Stmt}
use Rattle.rtl_tree.specs.declared.tree.stmt.Stmt.TheVariants as stmt
use Rattle.rtl_tree.specs.TreeExpr.{Concat, Repeat, formula, formula_row, identifier}
use Rattle.rtl_tree.specs.TreeStmt.{Joined, Case, Block, target, target_row, action, action_row, branch, branch_row}
use Rattle.rtl_tree.proofs.TreeViews.{block_is, case_is, concat_is, joined_is, repeat_is}
use Rattle.elab_renames.specs.Renames.{renamed_formula, renamed_target, renamed_action}

pub concat_renamed : (f : List ℕ → List ℕ) (at : ℕ) (parts : Vec Expr Global) (e : Expr) → e ≡ expr.Concat at parts
    → renamed_formula f (formula e) ≡ renamed_formula f (Concat at (formula_row (map formula parts.items)))
concat_renamed f at parts e is =
    ap (λ e. renamed_formula f (formula e)) is ∙ ap (renamed_formula f) (concat_is at parts)

pub repeat_renamed : (f : List ℕ → List ℕ) (at : ℕ) (times : Box Expr Global) (parts : Vec Expr Global) (e : Expr) → e ≡ expr.Repeat at times parts
    → renamed_formula f (formula e) ≡ renamed_formula f (Repeat at (formula times.value) (formula_row (map formula parts.items)))
repeat_renamed f at times parts e is =
    ap (λ e. renamed_formula f (formula e)) is ∙ ap (renamed_formula f) (repeat_is at times parts)

pub joined_renamed : (f : List ℕ → List ℕ) (at : ℕ) (parts : Vec Lvalue Global) (l : Lvalue) → l ≡ lvalue.Concat at parts
    → renamed_target f (target l) ≡ renamed_target f (Joined at (target_row (map target parts.items)))
joined_renamed f at parts l is =
    ap (λ l. renamed_target f (target l)) is ∙ ap (renamed_target f) (joined_is at parts)

pub case_renamed : (f : List ℕ → List ℕ) (at : ℕ) (kind : CaseKind) (full parallel : Bool) (selector : Expr) (items : Vec CaseItem Global) (s : Stmt) → s ≡ stmt.Case at kind full parallel selector items
    → renamed_action f (action s) ≡ renamed_action f (Case at kind full parallel (formula selector) (branch_row (map branch items.items)))
case_renamed f at kind full parallel selector items s is =
    ap (λ s. renamed_action f (action s)) is
    ∙ ap (renamed_action f) (case_is at kind full parallel selector items)

pub block_renamed : (f : List ℕ → List ℕ) (at : ℕ) (label : Option Name) (body : Vec Stmt Global) (s : Stmt) → s ≡ stmt.Block at label body
    → renamed_action f (action s) ≡ renamed_action f (Block at (option_map identifier label) (action_row (map action body.items)))
block_renamed f at label body s is =
    ap (λ s. renamed_action f (action s)) is ∙ ap (renamed_action f) (block_is at label body)
