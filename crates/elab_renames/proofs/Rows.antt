-- What is renamed in a row is renamed one by one.
use Rattle.std.proofs.Common.{◌≡◌, ℕ, List, [], ◌∷◌, map, refl, ap}
use Rattle.rtl_tree.specs.TreeExpr.{Formula, more_formulas, formula_row}
use Rattle.rtl_tree.specs.TreeStmt.{Target, more_targets, target_row, Action, more_actions, action_row, Branch, more_branches, branch_row}
use Rattle.elab_renames.specs.Renames.{renamed_formula, renamed_formulas, renamed_target, renamed_targets, renamed_action, renamed_actions, renamed_branch, renamed_branches}

pub formulas_renamed : (f : List ℕ → List ℕ) (all : List Formula) → renamed_formulas f (formula_row all) ≡ formula_row (map (renamed_formula f) all)
formulas_renamed f [] = refl
formulas_renamed f (first ∷ others) =
    ap (more_formulas (renamed_formula f first)) (formulas_renamed f others)

pub targets_renamed : (f : List ℕ → List ℕ) (all : List Target) → renamed_targets f (target_row all) ≡ target_row (map (renamed_target f) all)
targets_renamed f [] = refl
targets_renamed f (first ∷ others) =
    ap (more_targets (renamed_target f first)) (targets_renamed f others)

pub actions_renamed : (f : List ℕ → List ℕ) (all : List Action) → renamed_actions f (action_row all) ≡ action_row (map (renamed_action f) all)
actions_renamed f [] = refl
actions_renamed f (first ∷ others) =
    ap (more_actions (renamed_action f first)) (actions_renamed f others)

pub branches_renamed : (f : List ℕ → List ℕ) (all : List Branch) → renamed_branches f (branch_row all) ≡ branch_row (map (renamed_branch f) all)
branches_renamed f [] = refl
branches_renamed f (first ∷ others) =
    ap (more_branches (renamed_branch f first)) (branches_renamed f others)
