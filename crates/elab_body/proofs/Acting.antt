-- What bodies are in the design: branches, turns and what holds vectors.
use Rattle.std.specs.Prelude.{ℕ, zero, suc, ◌+◌, ◌<◌, length, drop, ℤ, Bool, true, false, List, [], ◌∷◌, ◌++◌, map, Vec, Box, Option, None, Some, Ok, Err}
use Rattle.std.specs.declared.alloc.Global.{Global}
use Rattle.std.proofs.Common.{◌≡◌, ◌∙◌, ap, refl, sym, inl, inr, append_assoc, get_or}
use Rattle.std.proofs.lemmas.Bool.{cases_Bool}
use Rattle.std.proofs.lemmas.List.{append-nil, at_drop_more}
use Rattle.rtl_const.specs.Constant.{Outcome, is_true}
use Rattle.text_ground.specs.declared.text.Spot.{Spot}
use Rattle.rtl_tree.specs.declared.tree.expr.Expr.{Expr}
use Rattle.rtl_tree.specs.declared.tree.names.Name.{Name}
use Rattle.rtl_tree.specs.declared.tree.stmt.CaseKind.{CaseKind}
use Rattle.rtl_tree.specs.declared.tree.stmt.CaseItem.{CaseItem}
use Rattle.rtl_tree.specs.declared.tree.stmt.Stmt.{Stmt}
use Rattle.rtl_tree.specs.declared.tree.stmt.Stmt.TheVariants as stmt
use Rattle.rtl_tree.specs.TreeExpr.{formula, identifier}
use Rattle.rtl_tree.specs.TreeStmt.{action, action_row, branch, branch_row}
use Rattle.rtl_tree.proofs.TreeViews.{case_is, block_is}
use Rattle.rtl_flat.specs.Expression.{Tree}
use Rattle.rtl_flat.specs.Process as made
use Rattle.elab_nodes.specs.elab_scope.Names.{Meanings}
use Rattle.elab_nodes.specs.elab_scope.Trees.{spot_in, tree_of}
use Rattle.elab_body.specs.Acts.{act_turns, acts, acts_if, acts_with, body_acts, branch_acts, case_branches, case_context, fallback, kind_of, loop_acts}
use Rattle.elab_body.specs.Bodies.{Head, in_head, in_turn}
use Rattle.elab_body.specs.Courses.{chosen, goes_on}
use Rattle.elab_body.specs.Made.{decided_acts}

-- an `if` is the branches that are left
pub branches_decided : (outcome : Outcome) (spot : Spot) (test : Tree) (taken : List made.Action) (otherwise : Option (List made.Action)) → branch_acts outcome spot test taken otherwise ≡ decided_acts (chosen outcome) spot test taken otherwise
branches_decided (Ok number) spot test taken None = elim (cases_Bool (is_true number)) [
  | inl yes' ↦ rw yes' refl
  | inr no' ↦ rw no' refl
]
branches_decided (Ok number) spot test taken (Some otherwise) = elim (cases_Bool (is_true number)) [
  | inl yes' ↦ rw yes' refl
  | inr no' ↦ rw no' refl
]
branches_decided (Err cause) spot test taken None = refl
branches_decided (Err cause) spot test taken (Some otherwise) = refl

-- a body in a scope
abbrev Acted : Type 0
Acted = Meanings → List made.Action

true_goes : (o : Outcome) (xs : List made.Action) → goes_on o ≡ true → acts_if o xs ≡ xs
true_goes (Ok number) xs goes = rw goes refl
true_goes (Err cause) xs goes = absurd cc

false_stops : (o : Outcome) (xs : List made.Action) → goes_on o ≡ false → acts_if o xs ≡ []
false_stops (Ok number) xs stops = rw stops refl
false_stops (Err cause) xs stops = refl

goes : (body : Acted) (scope : Meanings) (head : Head) (k : ℕ) (n : ℤ) (s : Outcome) → goes_on (in_head (in_turn scope head n) head.condition) ≡ true → in_head (in_turn scope head n) head.step ≡ s → act_turns body scope head (suc k) n ≡ body (in_turn scope head n) ++ acts_with s (act_turns body scope head k)
unfolding act_turns
goes body scope head k n s on is =
    true_goes (in_head (in_turn scope head n) head.condition) (body (in_turn scope head n) ++ acts_with (in_head (in_turn scope head n) head.step) (act_turns body scope head k)) on
    ∙ ap (λ s. body (in_turn scope head n) ++ acts_with s (act_turns body scope head k)) is

stops : (body : Acted) (scope : Meanings) (head : Head) (k : ℕ) (n : ℤ) → goes_on (in_head (in_turn scope head n) head.condition) ≡ false → act_turns body scope head k n ≡ []
unfolding act_turns
stops body scope head zero n off = refl
stops body scope head (suc k) n off =
    false_stops (in_head (in_turn scope head n) head.condition) (body (in_turn scope head n) ++ acts_with (in_head (in_turn scope head n) head.step) (act_turns body scope head k)) off

none_left : (body : Acted) (scope : Meanings) (head : Head) (n : ℤ) → act_turns body scope head zero n ≡ []
unfolding act_turns
none_left body scope head n = refl

condition_in : (scope turned : Meanings) (head : Head) (n : ℤ) (o : Outcome) (b : Bool) → turned ≡ in_turn scope head n → o ≡ in_head turned head.condition → goes_on o ≡ b → goes_on (in_head (in_turn scope head n) head.condition) ≡ b
condition_in scope turned head n o b in_it is on =
    ap (λ s. goes_on (in_head s head.condition)) (sym in_it) ∙ ap goes_on (sym is) ∙ on

-- a turn, and what follows from its step
pub act_goes : (xs ys : List made.Action) (body : Acted) (scope turned after : Meanings) (head : Head) (j k : ℕ) (n : ℤ) (o s : Outcome) → turned ≡ in_turn scope head n → after ≡ turned → j ≡ suc k → o ≡ in_head turned head.condition → goes_on o ≡ true → ys ≡ xs ++ body turned → s ≡ in_head after head.step → xs ++ act_turns body scope head j n ≡ ys ++ acts_with s (act_turns body scope head k)
act_goes xs ys body scope turned after head j k n o s in_it same more is on turn step =
    let rest : List made.Action = acts_with s (act_turns body scope head k) in
    ap (λ j. xs ++ act_turns body scope head j n) more
    ∙ ap (λ zs. xs ++ zs) (goes body scope head k n s (condition_in scope turned head n o true in_it is on) (ap (λ s. in_head s head.step) (sym (same ∙ in_it)) ∙ sym step))
    ∙ sym (append_assoc xs (body (in_turn scope head n)) rest)
    ∙ ap (λ zs. zs ++ rest) (ap (λ s. xs ++ body s) (sym in_it) ∙ sym turn)

-- a condition that doesn't hold ends the loop
pub act_stops : (xs : List made.Action) (body : Acted) (scope turned : Meanings) (head : Head) (k : ℕ) (n : ℤ) (o : Outcome) → turned ≡ in_turn scope head n → o ≡ in_head turned head.condition → goes_on o ≡ false → xs ++ act_turns body scope head k n ≡ xs
act_stops xs body scope turned head k n o in_it is off =
    ap (λ zs. xs ++ zs) (stops body scope head k n (condition_in scope turned head n o false in_it is off))
    ∙ append-nil xs

pub act_done : (xs : List made.Action) (body : Acted) (scope : Meanings) (head : Head) (k : ℕ) (n : ℤ) → k ≡ zero → xs ++ act_turns body scope head k n ≡ xs
act_done xs body scope head k n none =
    ap (λ k. xs ++ act_turns body scope head k n) none
    ∙ ap (λ zs. xs ++ zs) (none_left body scope head n)
    ∙ append-nil xs

-- statements that hold vectors
pub case_acts : (file base : ℕ) (scope : Meanings) (at : ℕ) (kind : CaseKind) (full parallel : Bool) (selector : Expr) (items : Vec CaseItem Global) (s : Stmt) → s ≡ stmt.Case at kind full parallel selector items → acts file base (action s) scope ≡ made.Case (kind_of kind) full parallel (tree_of file base scope (formula selector) (case_context scope (formula selector) (branch_row (map branch items.items)))) (case_branches file base (branch_row (map branch items.items)) scope (case_context scope (formula selector) (branch_row (map branch items.items)))) (fallback file base (branch_row (map branch items.items)) scope) (spot_in file at) ∷ []
case_acts file base scope at kind full parallel selector items s is =
    ap (λ s. acts file base (action s) scope) is
    ∙ ap (λ a. acts file base a scope) (case_is at kind full parallel selector items)

pub block_acts : (file base : ℕ) (scope : Meanings) (at : ℕ) (label : Option Name) (body : Vec Stmt Global) (s : Stmt) → s ≡ stmt.Block at label body → acts file base (action s) scope ≡ made.Block (made.body_of (body_acts file base (action_row (map action body.items)) scope)) ∷ []
block_acts file base scope at label body s is =
    ap (λ s. acts file base (action s) scope) is
    ∙ ap (λ a. acts file base a scope) (block_is at label body)

pub for_acts : (file base : ℕ) (scope : Meanings) (at : ℕ) (index : Name) (start condition : Expr) (stepped : Name) (step : Expr) (body : Box Stmt Global) (s : Stmt) → s ≡ stmt.For at index start condition stepped step body → acts file base (action s) scope ≡ loop_acts (acts file base (action body.value)) scope (record { at = at; index = identifier index; start = formula start; condition = formula condition; stepped = identifier stepped; step = formula step })
for_acts file base scope at index start condition stepped step body s is =
    ap (λ s. acts file base (action s) scope) is

-- a statement more of a row
pub row_acts : (file base : ℕ) (scope held : Meanings) (all : List Stmt) (i : ℕ) (item : Stmt) (xs ys r : List made.Action) → i < length all → item ≡ get_or all i item → ys ≡ xs ++ acts file base (action item) held → held ≡ scope → xs ++ body_acts file base (action_row (map action (drop i all))) scope ≡ r → ys ++ body_acts file base (action_row (map action (drop (i + 1) all))) scope ≡ r
row_acts file base scope held all i item xs ys r inside is told same earlier =
    let row : List Stmt → List made.Action = λ zs. body_acts file base (action_row (map action zs)) scope in
    ap (λ zs. zs ++ row (drop (i + 1) all)) (told ∙ ap (λ s. xs ++ acts file base (action item) s) same)
    ∙ append_assoc xs (acts file base (action item) scope) (row (drop (i + 1) all))
    ∙ ap (λ x. xs ++ row (x ∷ drop (i + 1) all)) is
    ∙ sym (at_drop_more (λ zs. xs ++ row zs) all i item inside)
    ∙ earlier
