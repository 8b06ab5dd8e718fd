-- Steps one after the other.
use Rattle.std.specs.Prelude.{ℕ, zero, suc, ◌+◌, ◌<◌, length, drop, map, Bool, true, List, [], ◌∷◌, ◌++◌, Option, None, Some}
use Rattle.std.proofs.Common.{◌≡◌, ◌∙◌, ap, refl, sym, get_or}
use Rattle.std.proofs.lemmas.List.{at_drop_more}
use Rattle.rtl_tree.specs.declared.tree.stmt.CaseItem.{CaseItem}
use Rattle.rtl_tree.specs.declared.tree.stmt.Stmt.{Stmt}
use Rattle.rtl_tree.specs.TreeStmt.{action, action_row, branch, branch_row}
use Rattle.elab_nodes.specs.elab_scope.Faults.{Refusal, keep, after}
use Rattle.elab_body.specs.declared.progress.Left.{Left}
use Rattle.elab_nodes.specs.elab_scope.Names.{Meanings}
use Rattle.elab_nodes.specs.Spares.{spared}
use Rattle.elab_body.specs.Bodies.{body_steps, branch_item_steps, branches_steps, steps}
use Rattle.elab_body.specs.Courses.{is_over}
use Rattle.elab_body.specs.Steps.{Step, Faulty, Statement, Turn, Delay, Nodes, Course, faulty, checked, passed, stepped, where_spared, with_nodes}

-- faults where nothing ended the body
pub passed_faulty : (best : Option Refusal) (left : Left) (filled : Bool) (faults : List Refusal) → passed (record { best = best; left = Some left; filled = filled }) (faulty faults) ≡ record { best = after best faults; left = Some left; filled = filled }
passed_faulty best left filled [] = refl
passed_faulty best left filled (x ∷ faults) = passed_faulty (keep best x) left filled faults

-- nothing behind the end counts
pub passed_cut : (best : Option Refusal) (filled : Bool) (steps : List Step) → passed (record { best = best; left = None; filled = filled }) steps ≡ record { best = best; left = None; filled = filled }
passed_cut best filled [] = refl
passed_cut best filled (Faulty x ∷ steps) = passed_cut best filled steps
passed_cut best filled (Statement at ∷ steps) = passed_cut best filled steps
passed_cut best filled (Turn at ∷ steps) = passed_cut best filled steps
passed_cut best filled (Delay at ∷ steps) = passed_cut best filled steps
passed_cut best filled (Nodes at count ∷ steps) = passed_cut best filled steps

pub passed_append : (course : Course) (xs ys : List Step) → passed course (xs ++ ys) ≡ passed (passed course xs) ys
passed_append course [] ys = refl
passed_append course (x ∷ xs) ys = passed_append (stepped course x) xs ys

abbrev at_left : Option Refusal → ℕ → ℕ → ℕ → Bool → Course
at_left best statements delays nodes filled =
    record { best = best; left = Some (record { statements = statements; delays = delays; nodes = nodes }); filled = filled }

-- what is told behind nodes, where it is so behind those that are left
spent_checked : (best : Option Refusal) (at statements delays : ℕ) (filled : Bool) (steps : List Step) (next : ℕ → List Refusal) → ((left : ℕ) → (passed (at_left best statements delays left filled) steps).best ≡ after best (next left)) → (spare : Option ℕ) → (passed (with_nodes best at filled statements delays spare) steps).best ≡ after best (where_spared at spare next)
spent_checked best at statements delays filled steps next here None =
    ap (λ c. c.best) (passed_cut _ _ steps)
spent_checked best at statements delays filled steps next here (Some left) = here left

-- what is told on the way is the least of the faults of the steps
pub passed_checked : (best : Option Refusal) (statements delays nodes : ℕ) (filled : Bool) (steps : List Step) → (passed (record { best = best; left = Some (record { statements = statements; delays = delays; nodes = nodes }); filled = filled }) steps).best ≡ after best (checked statements delays nodes steps)
passed_checked best statements delays nodes filled [] = refl
passed_checked best statements delays nodes filled (Faulty x ∷ steps) =
    passed_checked (keep best x) statements delays nodes filled steps
passed_checked best zero delays nodes filled (Statement at ∷ steps) =
    ap (λ c. c.best) (passed_cut _ _ steps)
passed_checked best (suc n) delays nodes filled (Statement at ∷ steps) =
    passed_checked best n delays nodes true steps
passed_checked best zero delays nodes filled (Turn at ∷ steps) =
    ap (λ c. c.best) (passed_cut _ _ steps)
passed_checked best (suc n) delays nodes filled (Turn at ∷ steps) =
    passed_checked best n delays nodes filled steps
passed_checked best zero zero nodes filled (Delay at ∷ steps) =
    ap (λ c. c.best) (passed_cut _ _ steps)
passed_checked best (suc n) zero nodes filled (Delay at ∷ steps) =
    ap (λ c. c.best) (passed_cut _ _ steps)
passed_checked best zero (suc d) nodes filled (Delay at ∷ steps) =
    passed_checked best zero d nodes filled steps
passed_checked best (suc n) (suc d) nodes filled (Delay at ∷ steps) =
    passed_checked best (suc n) d nodes filled steps
passed_checked best zero zero nodes filled (Nodes at count ∷ steps) =
    spent_checked best at zero zero filled steps (λ left. checked zero zero left steps) (λ left. passed_checked best zero zero left filled steps) (spared nodes count)
passed_checked best zero (suc d) nodes filled (Nodes at count ∷ steps) =
    spent_checked best at zero (suc d) filled steps (λ left. checked zero (suc d) left steps) (λ left. passed_checked best zero (suc d) left filled steps) (spared nodes count)
passed_checked best (suc n) zero nodes filled (Nodes at count ∷ steps) =
    spent_checked best at (suc n) zero filled steps (λ left. checked (suc n) zero left steps) (λ left. passed_checked best (suc n) zero left filled steps) (spared nodes count)
passed_checked best (suc n) (suc d) nodes filled (Nodes at count ∷ steps) =
    spent_checked best at (suc n) (suc d) filled steps (λ left. checked (suc n) (suc d) left steps) (λ left. passed_checked best (suc n) (suc d) left filled steps) (spared nodes count)

pub passed_faults : (course : Course) (xs ys : List Refusal) → passed course (faulty (xs ++ ys)) ≡ passed (passed course (faulty xs)) (faulty ys)
passed_faults course [] ys = refl
passed_faults course (x ∷ xs) ys = passed_faults (stepped course (Faulty x)) xs ys

-- faults in four parts
pub passed_four : (c c1 c2 c3 c4 : Course) (ws xs ys zs : List Refusal) → c1 ≡ passed c (faulty ws) → c2 ≡ passed c1 (faulty xs) → c3 ≡ passed c2 (faulty ys) → c4 ≡ passed c3 (faulty zs) → c4 ≡ passed c (faulty (ws ++ xs ++ ys ++ zs))
passed_four c c1 c2 c3 c4 ws xs ys zs first second third fourth =
    let e2 : c2 ≡ passed c (faulty (ws ++ xs)) =
    second ∙ ap (λ d. passed d (faulty xs)) first ∙ sym (passed_faults c ws xs) in
    let e3 : c3 ≡ passed c (faulty (ws ++ xs ++ ys)) =
    third ∙ ap (λ d. passed d (faulty ys)) e2 ∙ sym (passed_faults c (ws ++ xs) ys) in
    fourth ∙ ap (λ d. passed d (faulty zs)) e3 ∙ sym (passed_faults c (ws ++ xs ++ ys) zs)

-- a statement more of a row
pub passed_body : (c c1 : Course) (scope held : Meanings) (all : List Stmt) (i : ℕ) (item : Stmt) (r : Course) → i < length all → item ≡ get_or all i item → c1 ≡ passed c (steps (action item) held) → held ≡ scope → passed c (body_steps (action_row (map action (drop i all))) scope) ≡ r → passed c1 (body_steps (action_row (map action (drop (i + 1) all))) scope) ≡ r
passed_body c c1 scope held all i item r inside is told same earlier =
    let row : List Stmt → List Step = λ xs. body_steps (action_row (map action xs)) scope in
    ap (λ d. passed d (row (drop (i + 1) all))) (told ∙ ap (λ s. passed c (steps (action item) s)) same)
    ∙ sym (passed_append c (steps (action item) scope) (row (drop (i + 1) all)))
    ∙ ap (λ x. passed c (row (x ∷ drop (i + 1) all))) is
    ∙ sym (at_drop_more (λ xs. passed c (row xs)) all i item inside)
    ∙ earlier

-- an item more of a case
pub passed_item : (c c1 : Course) (scope held : Meanings) (all : List CaseItem) (i : ℕ) (item : CaseItem) (r : Course) → i < length all → item ≡ get_or all i item → c1 ≡ passed c (branch_item_steps (branch item) held) → held ≡ scope → passed c (branches_steps (branch_row (map branch (drop i all))) scope) ≡ r → passed c1 (branches_steps (branch_row (map branch (drop (i + 1) all))) scope) ≡ r
passed_item c c1 scope held all i item r inside is told same earlier =
    let row : List CaseItem → List Step = λ xs. branches_steps (branch_row (map branch xs)) scope in
    ap (λ d. passed d (row (drop (i + 1) all))) (told ∙ ap (λ s. passed c (branch_item_steps (branch item) s)) same)
    ∙ sym (passed_append c (branch_item_steps (branch item) scope) (row (drop (i + 1) all)))
    ∙ ap (λ x. passed c (row (x ∷ drop (i + 1) all))) is
    ∙ sym (at_drop_more (λ xs. passed c (row xs)) all i item inside)
    ∙ earlier

over_of : (best : Option Refusal) (left : Option Left) (filled : Bool) (steps : List Step) → is_over (record { best = best; left = left; filled = filled }) ≡ true → passed (record { best = best; left = left; filled = filled }) steps ≡ record { best = best; left = left; filled = filled }
over_of best None filled steps over = passed_cut best filled steps
over_of best (Some l) filled steps over = absurd cc

-- nothing counts where a limit is passed
pub passed_over : (course : Course) (steps : List Step) → is_over course ≡ true → passed course steps ≡ course
passed_over course steps over = over_of course.best course.left course.filled steps over
