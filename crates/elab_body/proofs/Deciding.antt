-- The branches of an `if` that are left, and the views of statements that hold vectors.
use Rattle.std.specs.Prelude.{ℕ, Bool, List, [], ◌∷◌, ◌++◌, map, Vec, Box, Option, Ok, Err}
use Rattle.std.specs.declared.alloc.Global.{Global}
use Rattle.std.proofs.Common.{◌≡◌, ◌∙◌, ap, refl, sym, inl, inr, append_assoc}
use Rattle.std.proofs.lemmas.Bool.{cases_Bool}
use Rattle.rtl_const.specs.Constant.{Outcome, is_true}
use Rattle.rtl_tree.specs.declared.tree.expr.Expr.{Expr}
use Rattle.rtl_tree.specs.declared.tree.names.Name.{Name}
use Rattle.rtl_tree.specs.declared.tree.stmt.CaseKind.{CaseKind}
use Rattle.rtl_tree.specs.declared.tree.stmt.CaseItem.{CaseItem}
use Rattle.rtl_tree.specs.declared.tree.stmt.Stmt.{Stmt}
use Rattle.rtl_tree.specs.declared.tree.stmt.Stmt.TheVariants as stmt
use Rattle.rtl_tree.specs.TreeExpr.{formula, identifier}
use Rattle.rtl_tree.specs.TreeStmt.{action, action_row, branch, branch_row}
use Rattle.rtl_tree.proofs.TreeViews.{case_is, block_is}
use Rattle.elab_nodes.specs.elab_scope.Expressions.{faults}
use Rattle.elab_nodes.specs.elab_scope.Faults.{Refusal}
use Rattle.elab_nodes.specs.elab_scope.Names.{Meanings}
use Rattle.elab_nodes.specs.Totals.{case_count}
use Rattle.elab_body.specs.declared.branches.Chosen.{Chosen}
use Rattle.elab_body.specs.declared.branches.Chosen.TheVariants.{Taken, Otherwise, Both}
use Rattle.elab_body.specs.Bodies.{Head, all_turns, body_steps, branch_steps, branches_steps, loop_faults, steps}
use Rattle.elab_body.specs.Courses.{chosen, chosen_steps, condition_steps}
use Rattle.elab_body.specs.Steps.{Course, Step, Statement, Nodes, faulty, passed, stepped}
use Rattle.elab_body.proofs.Passing.{passed_append}

-- an `if` is its condition and the branches that are left
branches_are : (at : ℕ) (outcome : Outcome) (nodes : ℕ) (condition : List Refusal) (taken otherwise : List Step) → branch_steps at outcome nodes condition taken otherwise ≡ condition_steps at outcome nodes condition ++ chosen_steps (chosen outcome) taken otherwise
branches_are at (Ok number) nodes condition taken otherwise = elim (cases_Bool (is_true number)) [
  | inl yes' ↦ rw yes' refl
  | inr no' ↦ rw no' refl
]
branches_are at (Err cause) nodes condition taken otherwise =
    append_assoc (Statement at ∷ Nodes at nodes ∷ faulty condition) taken otherwise

pub passed_branches : (course : Course) (at : ℕ) (outcome : Outcome) (nodes : ℕ) (condition : List Refusal) (taken otherwise : List Step) → passed course (branch_steps at outcome nodes condition taken otherwise) ≡ passed (passed course (condition_steps at outcome nodes condition)) (chosen_steps (chosen outcome) taken otherwise)
passed_branches course at outcome nodes condition taken otherwise =
    ap (passed course) (branches_are at outcome nodes condition taken otherwise)
    ∙ passed_append course (condition_steps at outcome nodes condition) (chosen_steps (chosen outcome) taken otherwise)

-- both branches, one after the other
passed_chosen : (course : Course) (chosen : Chosen) (taken otherwise : List Step) → passed course (chosen_steps chosen taken otherwise) ≡ passed (passed course (chosen_steps chosen taken [])) (chosen_steps chosen [] otherwise)
passed_chosen course Taken taken otherwise = refl
passed_chosen course Otherwise taken otherwise = refl
passed_chosen course Both taken otherwise =
    passed_append course taken otherwise
    ∙ ap (λ course. passed course otherwise) (sym (passed_append course taken []))

-- an `if` with `else` is the same without, and its `else`
pub passed_else : (course : Course) (at : ℕ) (outcome : Outcome) (nodes : ℕ) (condition : List Refusal) (taken otherwise : List Step) → passed course (branch_steps at outcome nodes condition taken otherwise) ≡ passed (passed course (branch_steps at outcome nodes condition taken [])) (chosen_steps (chosen outcome) [] otherwise)
passed_else course at outcome nodes condition taken otherwise =
    passed_branches course at outcome nodes condition taken otherwise
    ∙ passed_chosen (passed course (condition_steps at outcome nodes condition)) (chosen outcome) taken otherwise
    ∙ ap (λ course. passed course (chosen_steps (chosen outcome) [] otherwise)) (sym (passed_branches course at outcome nodes condition taken []))

pub case_passed : (course : Course) (scope : Meanings) (at : ℕ) (kind : CaseKind) (full parallel : Bool) (selector : Expr) (items : Vec CaseItem Global) (s : Stmt) → s ≡ stmt.Case at kind full parallel selector items → passed course (steps (action s) scope) ≡ passed course (Statement at ∷ Nodes at (case_count scope (formula selector) (branch_row (map branch items.items))) ∷ faulty (faults scope (formula selector)) ++ branches_steps (branch_row (map branch items.items)) scope)
case_passed course scope at kind full parallel selector items s is =
    ap (λ s. passed course (steps (action s) scope)) is
    ∙ ap (λ a. passed course (steps a scope)) (case_is at kind full parallel selector items)

pub block_passed : (course : Course) (scope : Meanings) (at : ℕ) (label : Option Name) (body : Vec Stmt Global) (s : Stmt) → s ≡ stmt.Block at label body → passed course (steps (action s) scope) ≡ passed (stepped course (Statement at)) (body_steps (action_row (map action body.items)) scope)
block_passed course scope at label body s is =
    ap (λ s. passed course (steps (action s) scope)) is
    ∙ ap (λ a. passed course (steps a scope)) (block_is at label body)

-- a loop is its head and its turns
pub for_passed : (course : Course) (scope : Meanings) (at : ℕ) (index : Name) (start condition : Expr) (stepped : Name) (step : Expr) (body : Box Stmt Global) (s : Stmt) → s ≡ stmt.For at index start condition stepped step body → passed course (steps (action s) scope) ≡ passed (passed course (faulty (loop_faults scope (record { at = at; index = identifier index; start = formula start; condition = formula condition; stepped = identifier stepped; step = formula step })))) (all_turns (steps (action body.value)) scope (record { at = at; index = identifier index; start = formula start; condition = formula condition; stepped = identifier stepped; step = formula step }))
for_passed course scope at index start condition stepped step body s is =
    let head : Head = record { at = at; index = identifier index; start = formula start; condition = formula condition; stepped = identifier stepped; step = formula step } in
    ap (λ s. passed course (steps (action s) scope)) is
    ∙ passed_append course (faulty (loop_faults scope head)) (all_turns (steps (action body.value)) scope head)
