-- The delays among the steps of bodies: branches, turns and what holds vectors.
use Rattle.std.specs.Prelude.{ℕ, zero, suc, ◌+◌, ◌<◌, length, drop, ℤ, Bool, true, false, List, [], ◌∷◌, ◌++◌, map, Vec, Box, Option, Ok, Err}
use Rattle.std.specs.declared.alloc.Global.{Global}
use Rattle.std.proofs.Common.{◌≡◌, ◌∙◌, ap, refl, sym, inl, inr, append_assoc, get_or}
use Rattle.std.proofs.lemmas.Bool.{cases_Bool}
use Rattle.std.proofs.lemmas.List.{append-nil, at_drop_more}
use Rattle.rtl_const.specs.Constant.{Outcome, is_true}
use Rattle.rtl_tree.specs.declared.tree.expr.Expr.{Expr}
use Rattle.rtl_tree.specs.declared.tree.names.Name.{Name}
use Rattle.std.specs.Option.{option_map}
use Rattle.rtl_tree.specs.declared.tree.stmt.AssignmentKind.{AssignmentKind}
use Rattle.rtl_tree.specs.declared.tree.stmt.Delay.{Delay as Written}
use Rattle.rtl_tree.specs.declared.tree.stmt.Lvalue.{Lvalue}
use Rattle.rtl_tree.specs.declared.tree.stmt.CaseKind.{CaseKind}
use Rattle.rtl_tree.specs.declared.tree.stmt.CaseItem.{CaseItem}
use Rattle.rtl_tree.specs.declared.tree.stmt.Stmt.{Stmt}
use Rattle.rtl_tree.specs.declared.tree.stmt.Stmt.TheVariants as stmt
use Rattle.rtl_tree.specs.TreeExpr.{Formula, formula, identifier}
use Rattle.rtl_tree.specs.TreeStmt.{Target, Pause, Assign, target, pause, action, action_row, branch, branch_row}
use Rattle.rtl_tree.proofs.TreeViews.{case_is, block_is}
use Rattle.elab_body.specs.elab_scope.Expressions.{faults}
use Rattle.elab_body.specs.elab_scope.Faults.{TooLarge, Refusal}
use Rattle.elab_body.specs.elab_scope.Names.{Meanings}
use Rattle.elab_body.specs.elab_scope.Rules.{fault, number_faults}
use Rattle.elab_body.specs.elab_scope.Targets.{target_faults}
use Rattle.elab_body.specs.elab_scope.declared.rules.Writer.TheVariants as writer
use Rattle.elab_body.specs.declared.branches.Chosen.{Chosen}
use Rattle.elab_body.specs.declared.branches.Chosen.TheVariants.{Taken, Otherwise, Both}
use Rattle.elab_body.specs.Bodies.{Head, all_turns, body_steps, branch_item_steps, branch_steps, branches_steps, counted, in_head, in_turn, loop_faults, pause_steps, steps, turns, where_true, with_number}
use Rattle.elab_body.specs.Courses.{chosen, chosen_steps, goes_on}
use Rattle.elab_body.specs.Steps.{Step, Faulty, Statement, Turn, Delay, Nodes, delays_of, faulty, has_statement}

pub pauses_append : (xs ys : List Step) → delays_of (xs ++ ys) ≡ delays_of xs ++ delays_of ys
pauses_append [] ys = refl
pauses_append (Faulty x ∷ xs) ys = pauses_append xs ys
pauses_append (Statement at ∷ xs) ys = pauses_append xs ys
pauses_append (Turn at ∷ xs) ys = pauses_append xs ys
pauses_append (Delay at ∷ xs) ys = ap (λ zs. at ∷ zs) (pauses_append xs ys)
pauses_append (Nodes at count ∷ xs) ys = pauses_append xs ys

pub no_pauses : (faults : List Refusal) → delays_of (faulty faults) ≡ []
no_pauses [] = refl
no_pauses (x ∷ faults) = no_pauses faults

pub behind_faults : (faults : List Refusal) (ys : List Step) → delays_of (faulty faults ++ ys) ≡ delays_of ys
behind_faults [] ys = refl
behind_faults (x ∷ faults) ys = behind_faults faults ys

-- an assignment has its own delay alone
pub assignment_pauses : (scope : Meanings) (written : Target) (kind : AssignmentKind) (before : Option Pause) (value : Formula) → delays_of (steps (Assign written kind before value) scope) ≡ delays_of (pause_steps before)
assignment_pauses scope written kind before value =
    let own : List Step = faulty (target_faults writer.Procedural scope written) in
    let last : List Step = faulty (faults scope value) in
    pauses_append (own ++ pause_steps before) last
    ∙ ap (λ zs. delays_of (own ++ pause_steps before) ++ zs) (no_pauses (faults scope value))
    ∙ append-nil (delays_of (own ++ pause_steps before))
    ∙ behind_faults (target_faults writer.Procedural scope written) (pause_steps before)

pub assigned_pauses : (scope : Meanings) (written : Lvalue) (kind : AssignmentKind) (delay : Option Written) (value : Expr) (s : Stmt) → s ≡ stmt.Assign written kind delay value → delays_of (steps (action s) scope) ≡ delays_of (pause_steps (option_map pause delay))
assigned_pauses scope written kind delay value s is =
    ap (λ s. delays_of (steps (action s) scope)) is
    ∙ assignment_pauses scope (target written) kind (option_map pause delay) (formula value)

-- an `if` has those of the branches that are left
pub branch_pauses : (at : ℕ) (outcome : Outcome) (nodes : ℕ) (condition : List Refusal) (taken otherwise : List Step) → delays_of (branch_steps at outcome nodes condition taken otherwise) ≡ delays_of (chosen_steps (chosen outcome) taken otherwise)
branch_pauses at (Ok number) nodes condition taken otherwise = elim (cases_Bool (is_true number)) [
  | inl yes' ↦ rw yes' (behind_faults condition taken)
  | inr no' ↦ rw no' (behind_faults condition otherwise)
]
branch_pauses at (Err cause) nodes condition taken otherwise =
    ap delays_of (append_assoc (faulty condition) taken otherwise)
    ∙ behind_faults condition (taken ++ otherwise)

parts : (left : Chosen) (taken otherwise : List Step) → delays_of (chosen_steps left taken otherwise) ≡ delays_of (chosen_steps left taken []) ++ delays_of (chosen_steps left [] otherwise)
parts Taken taken otherwise = sym (append-nil (delays_of taken))
parts Otherwise taken otherwise = refl
parts Both taken otherwise =
    pauses_append taken otherwise
    ∙ ap (λ xs. delays_of xs ++ delays_of otherwise) (sym (append-nil taken))

-- those of the one branch come before those of the other
pub else_pauses : (at : ℕ) (outcome : Outcome) (nodes : ℕ) (condition : List Refusal) (taken otherwise : List Step) → delays_of (branch_steps at outcome nodes condition taken otherwise) ≡ delays_of (chosen_steps (chosen outcome) taken []) ++ delays_of (chosen_steps (chosen outcome) [] otherwise)
else_pauses at outcome nodes condition taken otherwise =
    branch_pauses at outcome nodes condition taken otherwise ∙ parts (chosen outcome) taken otherwise

whole : (at : ℕ) (xs : List Step) → has_statement xs ≡ true → counted at xs ≡ xs
whole at xs has = rw has refl

once_more : (at : ℕ) (xs : List Step) → has_statement xs ≡ false → counted at xs ≡ xs ++ Turn at ∷ []
once_more at xs has = rw has refl

-- that a turn counts adds no delay
counted_pauses : (at : ℕ) (xs : List Step) → delays_of (counted at xs) ≡ delays_of xs
counted_pauses at xs = elim (cases_Bool (has_statement xs)) [
  | inl has ↦ ap delays_of (whole at xs has)
  | inr has ↦
      ap delays_of (once_more at xs has) ∙ pauses_append xs (Turn at ∷ []) ∙ append-nil (delays_of xs)
]

-- a body in a scope
abbrev Turned : Type 0
Turned = Meanings → List Step

true_goes : (o : Outcome) (xs : List Step) → goes_on o ≡ true → where_true o xs ≡ xs
true_goes (Ok number) xs goes = rw goes refl
true_goes (Err cause) xs goes = absurd cc

false_stops : (o : Outcome) (xs : List Step) → goes_on o ≡ false → where_true o xs ≡ faulty (number_faults o)
false_stops (Ok number) xs stops = rw stops refl
false_stops (Err cause) xs stops = refl

quiet : (o : Outcome) (xs : List Refusal) → delays_of (where_true o (faulty xs)) ≡ []
quiet (Ok number) xs = elim (cases_Bool (is_true number)) [
  | inl yes' ↦ rw yes' (no_pauses xs)
  | inr no' ↦ rw no' refl
]
quiet (Err cause) xs = refl

goes : (body : Turned) (scope : Meanings) (head : Head) (k : ℕ) (n : ℤ) (s : Outcome) → goes_on (in_head (in_turn scope head n) head.condition) ≡ true → in_head (in_turn scope head n) head.step ≡ s → delays_of (turns body scope head (suc k) n) ≡ delays_of (body (in_turn scope head n)) ++ delays_of (with_number s (turns body scope head k))
unfolding turns
goes body scope head k n s on is =
    let turn : List Step = counted head.at (body (in_turn scope head n)) in
    let next : List Step = with_number (in_head (in_turn scope head n) head.step) (turns body scope head k) in
    ap delays_of (true_goes (in_head (in_turn scope head n) head.condition) (turn ++ next) on)
    ∙ pauses_append turn next
    ∙ ap (λ zs. zs ++ delays_of next) (counted_pauses head.at (body (in_turn scope head n)))
    ∙ ap (λ s. delays_of (body (in_turn scope head n)) ++ delays_of (with_number s (turns body scope head k))) is

stops : (body : Turned) (scope : Meanings) (head : Head) (k : ℕ) (n : ℤ) → goes_on (in_head (in_turn scope head n) head.condition) ≡ false → delays_of (turns body scope head k n) ≡ []
unfolding turns
stops body scope head zero n off =
    quiet (in_head (in_turn scope head n) head.condition) (fault head.at TooLarge ∷ [])
stops body scope head (suc k) n off =
    ap delays_of (false_stops (in_head (in_turn scope head n) head.condition) (counted head.at (body (in_turn scope head n)) ++ with_number (in_head (in_turn scope head n) head.step) (turns body scope head k)) off)
    ∙ no_pauses (number_faults (in_head (in_turn scope head n) head.condition))

none_left : (body : Turned) (scope : Meanings) (head : Head) (n : ℤ) → delays_of (turns body scope head zero n) ≡ []
unfolding turns
none_left body scope head n =
    quiet (in_head (in_turn scope head n) head.condition) (fault head.at TooLarge ∷ [])

condition_in : (scope turned : Meanings) (head : Head) (n : ℤ) (o : Outcome) (b : Bool) → turned ≡ in_turn scope head n → o ≡ in_head turned head.condition → goes_on o ≡ b → goes_on (in_head (in_turn scope head n) head.condition) ≡ b
condition_in scope turned head n o b in_it is on =
    ap (λ s. goes_on (in_head s head.condition)) (sym in_it) ∙ ap goes_on (sym is) ∙ on

-- a turn, and what follows from its step
pub pause_goes : (xs ys : List ℕ) (body : Turned) (scope turned after : Meanings) (head : Head) (j k : ℕ) (n : ℤ) (o s : Outcome) → turned ≡ in_turn scope head n → after ≡ turned → j ≡ suc k → o ≡ in_head turned head.condition → goes_on o ≡ true → ys ≡ xs ++ delays_of (body turned) → s ≡ in_head after head.step → xs ++ delays_of (turns body scope head j n) ≡ ys ++ delays_of (with_number s (turns body scope head k))
pause_goes xs ys body scope turned after head j k n o s in_it same more is on turn step =
    let rest : List ℕ = delays_of (with_number s (turns body scope head k)) in
    ap (λ j. xs ++ delays_of (turns body scope head j n)) more
    ∙ ap (λ zs. xs ++ zs) (goes body scope head k n s (condition_in scope turned head n o true in_it is on) (ap (λ s. in_head s head.step) (sym (same ∙ in_it)) ∙ sym step))
    ∙ sym (append_assoc xs (delays_of (body (in_turn scope head n))) rest)
    ∙ ap (λ zs. zs ++ rest) (ap (λ s. xs ++ delays_of (body s)) (sym in_it) ∙ sym turn)

-- a condition that doesn't hold ends the loop
pub pause_stops : (xs : List ℕ) (body : Turned) (scope turned : Meanings) (head : Head) (k : ℕ) (n : ℤ) (o : Outcome) → turned ≡ in_turn scope head n → o ≡ in_head turned head.condition → goes_on o ≡ false → xs ++ delays_of (turns body scope head k n) ≡ xs
pause_stops xs body scope turned head k n o in_it is off =
    ap (λ zs. xs ++ zs) (stops body scope head k n (condition_in scope turned head n o false in_it is off))
    ∙ append-nil xs

pub pause_done : (xs : List ℕ) (body : Turned) (scope : Meanings) (head : Head) (k : ℕ) (n : ℤ) → k ≡ zero → xs ++ delays_of (turns body scope head k n) ≡ xs
pause_done xs body scope head k n none =
    ap (λ k. xs ++ delays_of (turns body scope head k n)) none
    ∙ ap (λ zs. xs ++ zs) (none_left body scope head n)
    ∙ append-nil xs

-- statements that hold vectors
pub case_pauses : (scope : Meanings) (at : ℕ) (kind : CaseKind) (full parallel : Bool) (selector : Expr) (items : Vec CaseItem Global) (s : Stmt) → s ≡ stmt.Case at kind full parallel selector items → delays_of (steps (action s) scope) ≡ delays_of (branches_steps (branch_row (map branch items.items)) scope)
case_pauses scope at kind full parallel selector items s is =
    ap (λ s. delays_of (steps (action s) scope)) is
    ∙ ap (λ a. delays_of (steps a scope)) (case_is at kind full parallel selector items)
    ∙ behind_faults (faults scope (formula selector)) (branches_steps (branch_row (map branch items.items)) scope)

pub block_pauses : (scope : Meanings) (at : ℕ) (label : Option Name) (body : Vec Stmt Global) (s : Stmt) → s ≡ stmt.Block at label body → delays_of (steps (action s) scope) ≡ delays_of (body_steps (action_row (map action body.items)) scope)
block_pauses scope at label body s is =
    ap (λ s. delays_of (steps (action s) scope)) is
    ∙ ap (λ a. delays_of (steps a scope)) (block_is at label body)

-- a loop has those of its turns
pub for_pauses : (scope : Meanings) (at : ℕ) (index : Name) (start condition : Expr) (stepped : Name) (step : Expr) (body : Box Stmt Global) (s : Stmt) → s ≡ stmt.For at index start condition stepped step body → delays_of (steps (action s) scope) ≡ delays_of (all_turns (steps (action body.value)) scope (record { at = at; index = identifier index; start = formula start; condition = formula condition; stepped = identifier stepped; step = formula step }))
for_pauses scope at index start condition stepped step body s is =
    let head : Head = record { at = at; index = identifier index; start = formula start; condition = formula condition; stepped = identifier stepped; step = formula step } in
    ap (λ s. delays_of (steps (action s) scope)) is
    ∙ behind_faults (loop_faults scope head) (all_turns (steps (action body.value)) scope head)

-- a statement more of a row
pub row_pauses : (scope held : Meanings) (all : List Stmt) (i : ℕ) (item : Stmt) (xs ys r : List ℕ) → i < length all → item ≡ get_or all i item → ys ≡ xs ++ delays_of (steps (action item) held) → held ≡ scope → xs ++ delays_of (body_steps (action_row (map action (drop i all))) scope) ≡ r → ys ++ delays_of (body_steps (action_row (map action (drop (i + 1) all))) scope) ≡ r
row_pauses scope held all i item xs ys r inside is told same earlier =
    let row : List Stmt → List Step = λ zs. body_steps (action_row (map action zs)) scope in
    let rest : List Step = row (drop (i + 1) all) in
    ap (λ zs. zs ++ delays_of rest) (told ∙ ap (λ s. xs ++ delays_of (steps (action item) s)) same)
    ∙ append_assoc xs (delays_of (steps (action item) scope)) (delays_of rest)
    ∙ ap (λ zs. xs ++ zs) (sym (pauses_append (steps (action item) scope) rest))
    ∙ ap (λ x. xs ++ delays_of (row (x ∷ drop (i + 1) all))) is
    ∙ sym (at_drop_more (λ zs. xs ++ delays_of (row zs)) all i item inside)
    ∙ earlier

-- an item more of a case
pub item_pauses : (scope held : Meanings) (all : List CaseItem) (i : ℕ) (item : CaseItem) (xs ys r : List ℕ) → i < length all → item ≡ get_or all i item → ys ≡ xs ++ delays_of (branch_item_steps (branch item) held) → held ≡ scope → xs ++ delays_of (branches_steps (branch_row (map branch (drop i all))) scope) ≡ r → ys ++ delays_of (branches_steps (branch_row (map branch (drop (i + 1) all))) scope) ≡ r
item_pauses scope held all i item xs ys r inside is told same earlier =
    let row : List CaseItem → List Step = λ zs. branches_steps (branch_row (map branch zs)) scope in
    let rest : List Step = row (drop (i + 1) all) in
    ap (λ zs. zs ++ delays_of rest) (told ∙ ap (λ s. xs ++ delays_of (branch_item_steps (branch item) s)) same)
    ∙ append_assoc xs (delays_of (branch_item_steps (branch item) scope)) (delays_of rest)
    ∙ ap (λ zs. xs ++ zs) (sym (pauses_append (branch_item_steps (branch item) scope) rest))
    ∙ ap (λ x. xs ++ delays_of (row (x ∷ drop (i + 1) all))) is
    ∙ sym (at_drop_more (λ zs. xs ++ delays_of (row zs)) all i item inside)
    ∙ earlier
