-- The depth of trees that hold vectors.
use Rattle.std.specs.Prelude.{Bool, Option, ℕ, ◌+◌, max, List, [], ◌∷◌, map, Vec, Box}
use Rattle.std.specs.declared.alloc.Global.{Global}
use Rattle.std.proofs.Common.{◌≡◌, ◌∙◌, ap, refl}
use Rattle.rtl_tree.specs.declared.tree.expr.Expr.{Expr}
use Rattle.rtl_tree.specs.declared.tree.expr.Expr.TheVariants as expr
use Rattle.rtl_tree.specs.TreeExpr.{Formula, formula, formula_row}
use Rattle.rtl_tree.specs.declared.tree.names.Name.{Name}
use Rattle.rtl_tree.specs.declared.tree.stmt.Lvalue.{Lvalue}
use Rattle.rtl_tree.specs.declared.tree.stmt.Lvalue.TheVariants as lvalue
use Rattle.rtl_tree.specs.declared.tree.stmt.CaseKind.{CaseKind}
use Rattle.rtl_tree.specs.declared.tree.stmt.CaseItem.{CaseItem}
use Rattle.rtl_tree.specs.declared.tree.stmt.Stmt.{Stmt}
use Rattle.rtl_tree.specs.declared.tree.stmt.Stmt.TheVariants as stmt
use Rattle.rtl_tree.specs.TreeStmt.{Target, target, target_row, Action, action, action_row, Branch, branch, branch_row}
use Rattle.rtl_tree.specs.declared.tree.written.GenerateBlock.{GenerateBlock}
use Rattle.rtl_tree.specs.declared.tree.written.GenerateBlock.TheVariants as made_of
use Rattle.rtl_tree.specs.declared.tree.written.GenerateChoice.{GenerateChoice}
use Rattle.rtl_tree.specs.declared.tree.written.WrittenItem.{WrittenItem}
use Rattle.rtl_tree.specs.declared.tree.written.WrittenItem.TheVariants as item
use Rattle.rtl_tree.specs.TreeWritten as tree
use Rattle.text_grammar.specs.Depth.{greatest, formula_depth, formulas_depth, target_depth, targets_depth, action_depth, actions_depth, branch_depth, branches_depth, written_depth, written_items_depth, made_depth, choice_depth, choices_depth}
use Rattle.rtl_tree.proofs.TreeViews.{concat_is, repeat_is, joined_is, case_is, block_is, region_is, generate_case_is, generate_block_is}

formula_row_depth : (all : List Formula) → formulas_depth (formula_row all) ≡ greatest formula_depth all
formula_row_depth [] = refl
formula_row_depth (first ∷ others) = ap (max (formula_depth first)) (formula_row_depth others)

pub concat_depth : (at : ℕ) (parts : Vec Expr Global) (e : Expr) → e ≡ expr.Concat at parts → formula_depth (formula e) ≡ 1 + greatest formula_depth (map formula parts.items)
concat_depth at parts e is =
    ap (λ e. formula_depth (formula e)) is
    ∙ ap formula_depth (concat_is at parts)
    ∙ ap (λ n. 1 + n) (formula_row_depth (map formula parts.items))

pub repeat_depth : (at : ℕ) (times : Box Expr Global) (parts : Vec Expr Global) (e : Expr) → e ≡ expr.Repeat at times parts → formula_depth (formula e) ≡ 1 + max (formula_depth (formula times.value)) (greatest formula_depth (map formula parts.items))
repeat_depth at times parts e is =
    ap (λ e. formula_depth (formula e)) is
    ∙ ap formula_depth (repeat_is at times parts)
    ∙ ap (λ n. 1 + max (formula_depth (formula times.value)) n) (formula_row_depth (map formula parts.items))

target_row_depth : (all : List Target) → targets_depth (target_row all) ≡ greatest target_depth all
target_row_depth [] = refl
target_row_depth (first ∷ others) = ap (max (target_depth first)) (target_row_depth others)

pub joined_depth : (at : ℕ) (parts : Vec Lvalue Global) (l : Lvalue) → l ≡ lvalue.Concat at parts → target_depth (target l) ≡ 1 + greatest target_depth (map target parts.items)
joined_depth at parts l is =
    ap (λ l. target_depth (target l)) is
    ∙ ap target_depth (joined_is at parts)
    ∙ ap (λ n. 1 + n) (target_row_depth (map target parts.items))

branch_row_depth : (all : List Branch) → branches_depth (branch_row all) ≡ greatest branch_depth all
branch_row_depth [] = refl
branch_row_depth (first ∷ others) = ap (max (branch_depth first)) (branch_row_depth others)

action_row_depth : (all : List Action) → actions_depth (action_row all) ≡ greatest action_depth all
action_row_depth [] = refl
action_row_depth (first ∷ others) = ap (max (action_depth first)) (action_row_depth others)

pub case_depth : (at : ℕ) (kind : CaseKind) (full parallel : Bool) (selector : Expr) (items : Vec CaseItem Global) (s : Stmt) → s ≡ stmt.Case at kind full parallel selector items → action_depth (action s) ≡ 1 + max (formula_depth (formula selector)) (greatest branch_depth (map branch items.items))
case_depth at kind full parallel selector items s is =
    ap (λ s. action_depth (action s)) is
    ∙ ap action_depth (case_is at kind full parallel selector items)
    ∙ ap (λ n. 1 + max (formula_depth (formula selector)) n) (branch_row_depth (map branch items.items))

pub block_depth : (at : ℕ) (label : Option Name) (body : Vec Stmt Global) (s : Stmt) → s ≡ stmt.Block at label body → action_depth (action s) ≡ 1 + greatest action_depth (map action body.items)
block_depth at label body s is =
    ap (λ s. action_depth (action s)) is
    ∙ ap action_depth (block_is at label body)
    ∙ ap (λ n. 1 + n) (action_row_depth (map action body.items))

item_row_depth : (all : List tree.WrittenItem) → written_items_depth (tree.item_row all) ≡ greatest written_depth all
item_row_depth [] = refl
item_row_depth (first ∷ others) = ap (max (written_depth first)) (item_row_depth others)

choice_row_depth : (all : List tree.GenerateChoice) → choices_depth (tree.choice_row all) ≡ greatest choice_depth all
choice_row_depth [] = refl
choice_row_depth (first ∷ others) = ap (max (choice_depth first)) (choice_row_depth others)

pub region_depth : (at : ℕ) (items : Vec WrittenItem Global) (w : WrittenItem) → w ≡ item.Region at items → written_depth (tree.written_item w) ≡ 1 + greatest written_depth (map tree.written_item items.items)
region_depth at items w is =
    ap (λ w. written_depth (tree.written_item w)) is
    ∙ ap written_depth (region_is at items)
    ∙ ap (λ n. 1 + n) (item_row_depth (map tree.written_item items.items))

pub generate_case_depth : (at : ℕ) (selector : Expr) (choices : Vec GenerateChoice Global) (w : WrittenItem) → w ≡ item.Case at selector choices → written_depth (tree.written_item w) ≡ 1 + max (formula_depth (formula selector)) (greatest choice_depth (map tree.choice choices.items))
generate_case_depth at selector choices w is =
    ap (λ w. written_depth (tree.written_item w)) is
    ∙ ap written_depth (generate_case_is at selector choices)
    ∙ ap (λ n. 1 + max (formula_depth (formula selector)) n) (choice_row_depth (map tree.choice choices.items))

pub generate_block_depth : (at : ℕ) (label : Option Name) (items : Vec WrittenItem Global) (b : GenerateBlock) → b ≡ made_of.Block at label items → made_depth (tree.made b) ≡ 1 + greatest written_depth (map tree.written_item items.items)
generate_block_depth at label items b is =
    ap (λ b. made_depth (tree.made b)) is
    ∙ ap made_depth (generate_block_is at label items)
    ∙ ap (λ n. 1 + n) (item_row_depth (map tree.written_item items.items))
