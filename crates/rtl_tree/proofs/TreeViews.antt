-- The plain form of a tree that holds a vector, from the vector's items.
use Rattle.std.specs.Prelude.{ℕ, Bool, map, Vec, Option, Box}
use Rattle.std.specs.Option.{option_map}
use Rattle.std.specs.declared.alloc.Global.{Global}
use Rattle.std.proofs.Common.{◌≡◌, ◌∙◌, ap, refl}
use Rattle.rtl_tree.specs.declared.tree.expr.Expr.{Expr, Row_of-Expr, end_of-Expr, more_of-Expr, items-the_row-Expr, items_hidden-the_row-Expr-0}
use Rattle.rtl_tree.specs.declared.tree.expr.Expr.TheBlock.{hidden-the_row-Expr-0}
use Rattle.rtl_tree.specs.declared.tree.expr.Expr.TheVariants as expr
use Rattle.rtl_tree.specs.declared.tree.names.Name.{Name}
use Rattle.rtl_tree.specs.declared.tree.stmt.Lvalue.{Lvalue, Row_of-Lvalue, end_of-Lvalue, more_of-Lvalue, items-the_row-Lvalue, items_hidden-the_row-Lvalue-0}
use Rattle.rtl_tree.specs.declared.tree.stmt.Lvalue.TheBlock.{hidden-the_row-Lvalue-0}
use Rattle.rtl_tree.specs.declared.tree.stmt.Lvalue.TheVariants as lvalue
use Rattle.rtl_tree.specs.declared.tree.stmt.CaseKind.{CaseKind}
use Rattle.rtl_tree.specs.declared.tree.stmt.CaseItem.{CaseItem}
use Rattle.rtl_tree.specs.declared.tree.stmt.CaseItem.TheBlock.{hidden-the_row-CaseItem-0, hidden-the_row-Stmt-1}
use Rattle.rtl_tree.specs.declared.tree.stmt.Stmt.{Row_of-CaseItem, end_of-CaseItem, more_of-CaseItem, items-the_row-CaseItem, items_hidden-the_row-CaseItem-0, Stmt, Row_of-Stmt, end_of-Stmt, more_of-Stmt, items-the_row-Stmt, items_hidden-the_row-Stmt-1}
use Rattle.rtl_tree.specs.declared.tree.stmt.Stmt.TheVariants as stmt
use Rattle.rtl_tree.specs.declared.tree.written.WrittenItem.TheVariants as item
use Rattle.rtl_tree.specs.declared.tree.written.WrittenItem.{WrittenItem, Row_of-WrittenItem, end_of-WrittenItem, more_of-WrittenItem, items-the_row-WrittenItem, items_hidden-the_row-WrittenItem-0, Row_of-GenerateChoice, end_of-GenerateChoice, more_of-GenerateChoice, items-the_row-GenerateChoice, items_hidden-the_row-GenerateChoice-1}
use Rattle.rtl_tree.specs.declared.tree.written.GenerateBlock.TheBlock.{hidden-the_row-WrittenItem-0, hidden-the_row-GenerateChoice-1}
use Rattle.rtl_tree.specs.declared.tree.written.GenerateBlock.TheVariants as made_of
use Rattle.rtl_tree.specs.declared.tree.written.GenerateChoice.{GenerateChoice}
use Rattle.rtl_tree.specs.TreeWritten as tree
use Rattle.rtl_tree.specs.TreeStmt.{more_targets, Joined, target, targets, target_row, more_actions, more_branches, Case, Block, action, actions, action_row, branch, branches, branch_row}
use Rattle.rtl_tree.specs.TreeExpr.{identifier, more_formulas, Concat, Repeat, formula, formulas, formula_row}

formulas_is : (n : _) (row : Row_of-Expr n) → formulas row ≡ formula_row (map formula (items-the_row-Expr n row))
formulas_is _ end_of-Expr = refl
formulas_is _ (more_of-Expr first others) = ap (more_formulas (formula first)) (formulas_is _ others)

pub concat_is : (at : ℕ) (parts : Vec Expr Global) → formula (expr.Concat at parts) ≡ Concat at (formula_row (map formula parts.items))
concat_is at parts =
    ap (Concat at)
    (formulas_is _ (hidden-the_row-Expr-0 parts) ∙ ap (λ items. formula_row (map formula items)) (items_hidden-the_row-Expr-0 parts))

pub repeat_is : (at : ℕ) (times : Box Expr Global) (parts : Vec Expr Global) → formula (expr.Repeat at times parts) ≡ Repeat at (formula times.value) (formula_row (map formula parts.items))
repeat_is at times parts =
    ap (Repeat at (formula times.value))
    (formulas_is _ (hidden-the_row-Expr-0 parts) ∙ ap (λ items. formula_row (map formula items)) (items_hidden-the_row-Expr-0 parts))

targets_is : (n : _) (row : Row_of-Lvalue n) → targets row ≡ target_row (map target (items-the_row-Lvalue n row))
targets_is _ end_of-Lvalue = refl
targets_is _ (more_of-Lvalue first others) = ap (more_targets (target first)) (targets_is _ others)

pub joined_is : (at : ℕ) (parts : Vec Lvalue Global) → target (lvalue.Concat at parts) ≡ Joined at (target_row (map target parts.items))
joined_is at parts =
    ap (Joined at)
    (targets_is _ (hidden-the_row-Lvalue-0 parts) ∙ ap (λ items. target_row (map target items)) (items_hidden-the_row-Lvalue-0 parts))

branches_is : (n : _) (row : Row_of-CaseItem n) → branches row ≡ branch_row (map branch (items-the_row-CaseItem n row))
branches_is _ end_of-CaseItem = refl
branches_is _ (more_of-CaseItem first others) = ap (more_branches (branch first)) (branches_is _ others)

actions_is : (n : _) (row : Row_of-Stmt n) → actions row ≡ action_row (map action (items-the_row-Stmt n row))
actions_is _ end_of-Stmt = refl
actions_is _ (more_of-Stmt first others) = ap (more_actions (action first)) (actions_is _ others)

pub case_is : (at : ℕ) (kind : CaseKind) (full parallel : Bool) (selector : Expr) (items : Vec CaseItem Global) → action (stmt.Case at kind full parallel selector items) ≡ Case at kind full parallel (formula selector) (branch_row (map branch items.items))
case_is at kind full parallel selector items =
    ap (Case at kind full parallel (formula selector))
    (branches_is _ (hidden-the_row-CaseItem-0 items) ∙ ap (λ all. branch_row (map branch all)) (items_hidden-the_row-CaseItem-0 items))

pub block_is : (at : ℕ) (label : Option Name) (body : Vec Stmt Global) → action (stmt.Block at label body) ≡ Block at (option_map identifier label) (action_row (map action body.items))
block_is at label body =
    ap (Block at (option_map identifier label))
    (actions_is _ (hidden-the_row-Stmt-1 body) ∙ ap (λ all. action_row (map action all)) (items_hidden-the_row-Stmt-1 body))

written_items_is : (n : _) (row : Row_of-WrittenItem n) → tree.written_items row ≡ tree.item_row (map tree.written_item (items-the_row-WrittenItem n row))
written_items_is _ end_of-WrittenItem = refl
written_items_is _ (more_of-WrittenItem first others) = ap (tree.more_items (tree.written_item first)) (written_items_is _ others)

choices_is : (n : _) (row : Row_of-GenerateChoice n) → tree.choices row ≡ tree.choice_row (map tree.choice (items-the_row-GenerateChoice n row))
choices_is _ end_of-GenerateChoice = refl
choices_is _ (more_of-GenerateChoice first others) = ap (tree.more_choices (tree.choice first)) (choices_is _ others)

pub region_is : (at : ℕ) (items : Vec WrittenItem Global) → tree.written_item (item.Region at items) ≡ tree.Region at (tree.item_row (map tree.written_item items.items))
region_is at items =
    ap (tree.Region at)
    (written_items_is _ (hidden-the_row-WrittenItem-0 items) ∙ ap (λ all. tree.item_row (map tree.written_item all)) (items_hidden-the_row-WrittenItem-0 items))

pub generate_case_is : (at : ℕ) (selector : Expr) (choices : Vec GenerateChoice Global) → tree.written_item (item.Case at selector choices) ≡ tree.Case at (formula selector) (tree.choice_row (map tree.choice choices.items))
generate_case_is at selector choices =
    ap (tree.Case at (formula selector))
    (choices_is _ (hidden-the_row-GenerateChoice-1 choices) ∙ ap (λ all. tree.choice_row (map tree.choice all)) (items_hidden-the_row-GenerateChoice-1 choices))

pub generate_block_is : (at : ℕ) (label : Option Name) (items : Vec WrittenItem Global) → tree.made (made_of.Block at label items) ≡ tree.Block at (option_map identifier label) (tree.item_row (map tree.written_item items.items))
generate_block_is at label items =
    ap (tree.Block at (option_map identifier label))
    (written_items_is _ (hidden-the_row-WrittenItem-0 items) ∙ ap (λ all. tree.item_row (map tree.written_item all)) (items_hidden-the_row-WrittenItem-0 items))
