-- Statements that are lawful and no more than the steps of their body count.
use Rattle.std.specs.Prelude.{ℕ, ◌+◌, ◌≤◌, ℤ, Bool, true, false, if◌then◌else◌, List, [], ◌∷◌, ◌++◌, None, Some, Ok, Err}
use Rattle.std.proofs.Common.{◌≡◌, arith}
use Rattle.rtl_const.specs.Constant.{Outcome, is_true}
use Rattle.text_ground.specs.declared.text.Spot.{Spot}
use Rattle.rtl_flat.specs.declared.signal.Signal.{Signal}
use Rattle.rtl_flat.specs.Expression.{Tree}
use Rattle.rtl_flat.specs.Process.{Action, body_of}
use Rattle.rtl_flat.specs.Signs.{IsExpression}
use Rattle.rtl_flat.specs.WellFormed.{IsBody, statements_of}
use Rattle.elab_body.specs.elab_scope.Faults.{Refusal}
use Rattle.elab_body.specs.Acts.{branch_acts, acts_if, acts_with}
use Rattle.elab_body.specs.Bodies.{branch_steps, counted, where_true, with_number}
use Rattle.elab_body.specs.Steps.{Step, Turn, faulty, has_statement}
use Rattle.elab_body.specs.Faultless.{AreFaultless, statement_count}
use Rattle.elab_laws.proofs.Steps.{count_append, count_faulty, faultless_left, faultless_right, no_faults}

pub record Made (ss : List Signal) (steps : List Step) (acts : List Action) : Type 0 where
  pub body : IsBody ss (body_of acts)
  pub count : statements_of (body_of acts) ≤ statement_count steps

body_append : (ss : List Signal) (xs ys : List Action) → IsBody ss (body_of xs) → IsBody ss (body_of ys) → IsBody ss (body_of (xs ++ ys))
body_append ss [] ys h g = g
body_append ss (x ∷ xs) ys h g = (h.0, body_append ss xs ys h.1 g)

statements_append : (xs ys : List Action) → statements_of (body_of (xs ++ ys)) ≡ statements_of (body_of xs) + statements_of (body_of ys)
statements_append [] ys = omega arith
statements_append (x ∷ xs) ys = omega (arith, statements_append xs ys)

pub made_none : (ss : List Signal) (steps : List Step) → Made ss steps []
made_none ss steps = record { body = tt; count = omega arith }

pub made_more : (ss : List Signal) (xs ys : List Step) (acts : List Action) → Made ss xs acts → statement_count xs ≤ statement_count ys → Made ss ys acts
made_more ss xs ys acts m low =
    let count : statements_of (body_of acts) ≤ statement_count xs = m.count in
    record { body = m.body; count = omega (arith, count, low) }

pub made_append : (ss : List Signal) (xs ys : List Step) (a b : List Action) → Made ss xs a → Made ss ys b → Made ss (xs ++ ys) (a ++ b)
made_append ss xs ys a b m n =
    let first : statements_of (body_of a) ≤ statement_count xs = m.count in
    let second : statements_of (body_of b) ≤ statement_count ys = n.count in
    record { body = body_append ss a b m.body n.body; count = omega (arith, first, second, statements_append a b, count_append xs ys) }

-- faults that aren't there count nothing
pub made_behind : (ss : List Signal) (faults : List Refusal) (xs : List Step) (acts : List Action) → Made ss xs acts → Made ss (faulty faults ++ xs) acts
made_behind ss faults xs acts m =
    made_more ss xs (faulty faults ++ xs) acts m (omega (arith, count_append (faulty faults) xs, count_faulty faults))

-- one of two
pub made_chosen : (ss : List Signal) (b : Bool) (xs ys : List Step) (as' bs : List Action) → (AreFaultless xs → Made ss xs as') → (AreFaultless ys → Made ss ys bs) → AreFaultless (if b then xs else ys) → Made ss (if b then xs else ys) (if b then as' else bs)
made_chosen ss true xs ys as' bs m n h = m h
made_chosen ss false xs ys as' bs m n h = n h

pub made_else : (ss : List Signal) (at : ℕ) (o : Outcome) (nodes : ℕ) (cond : List Refusal) (xs ys : List Step) (spot : Spot) (test : Tree) (as' bs : List Action) → (cond ≡ [] → IsExpression ss test) → (AreFaultless xs → Made ss xs as') → (AreFaultless ys → Made ss ys bs) → AreFaultless (branch_steps at o nodes cond xs ys) → Made ss (branch_steps at o nodes cond xs ys) (branch_acts o spot test as' (Some bs))
made_else ss at (Ok number) nodes cond xs ys spot test as' bs e m n h =
    made_behind ss cond (if is_true number then xs else ys) (if is_true number then as' else bs) (made_chosen ss (is_true number) xs ys as' bs m n (faultless_right (faulty cond) (if is_true number then xs else ys) h))
made_else ss at (Err cause) nodes cond xs ys spot test as' bs e m n h =
    let front : AreFaultless (faulty cond ++ xs) = faultless_left (faulty cond ++ xs) ys h in
    let none : cond ≡ [] = no_faults cond (faultless_left (faulty cond) xs front) in
    let taken = m (faultless_right (faulty cond) xs front) in
    let other = n (faultless_right (faulty cond ++ xs) ys h) in
    let first : statements_of (body_of as') ≤ statement_count xs = taken.count in
    let second : statements_of (body_of bs) ≤ statement_count ys = other.count in
    record { body = ((e none, taken.body, other.body), tt); count = omega (arith, first, second, count_append (faulty cond ++ xs) ys, count_append (faulty cond) xs) }

pub made_if : (ss : List Signal) (at : ℕ) (o : Outcome) (nodes : ℕ) (cond : List Refusal) (xs : List Step) (spot : Spot) (test : Tree) (as' : List Action) → (cond ≡ [] → IsExpression ss test) → (AreFaultless xs → Made ss xs as') → AreFaultless (branch_steps at o nodes cond xs []) → Made ss (branch_steps at o nodes cond xs []) (branch_acts o spot test as' None)
made_if ss at (Ok number) nodes cond xs spot test as' e m h =
    made_behind ss cond (if is_true number then xs else []) (if is_true number then as' else []) (made_chosen ss (is_true number) xs [] as' [] m (λ none. made_none ss []) (faultless_right (faulty cond) (if is_true number then xs else []) h))
made_if ss at (Err cause) nodes cond xs spot test as' e m h =
    let front : AreFaultless (faulty cond ++ xs) = faultless_left (faulty cond ++ xs) [] h in
    let none : cond ≡ [] = no_faults cond (faultless_left (faulty cond) xs front) in
    let taken = m (faultless_right (faulty cond) xs front) in
    let first : statements_of (body_of as') ≤ statement_count xs = taken.count in
    record { body = ((e none, taken.body, tt), tt); count = omega (arith, first, count_append (faulty cond ++ xs) [], count_append (faulty cond) xs) }

-- ---- turns of loops

pub made_where : (ss : List Signal) (o : Outcome) (xs : List Step) (acts : List Action) → (AreFaultless xs → Made ss xs acts) → AreFaultless (where_true o xs) → Made ss (where_true o xs) (acts_if o acts)
made_where ss (Err cause) xs acts m h = absurd h
made_where ss (Ok number) xs acts m h =
    made_chosen ss (is_true number) xs [] acts [] m (λ none. made_none ss []) h

pub made_with : (ss : List Signal) (o : Outcome) (next : ℤ → List Step) (acts : ℤ → List Action) → ((number : ℤ) → AreFaultless (next number) → Made ss (next number) (acts number)) → AreFaultless (with_number o next) → Made ss (with_number o next) (acts_with o acts)
made_with ss (Err cause) next acts m h = absurd h
made_with ss (Ok number) next acts m h = m number h

counted_by : (ss : List Signal) (b : Bool) (at : ℕ) (xs : List Step) (acts : List Action) → (AreFaultless xs → Made ss xs acts) → AreFaultless (if b then xs else xs ++ Turn at ∷ []) → Made ss (if b then xs else xs ++ Turn at ∷ []) acts
counted_by ss true at xs acts m h = m h
counted_by ss false at xs acts m h =
    made_more ss xs (xs ++ Turn at ∷ []) acts (m (faultless_left xs (Turn at ∷ []) h)) (omega (arith, count_append xs (Turn at ∷ [])))

pub made_counted : (ss : List Signal) (at : ℕ) (xs : List Step) (acts : List Action) → (AreFaultless xs → Made ss xs acts) → AreFaultless (counted at xs) → Made ss (counted at xs) acts
made_counted ss at xs acts m h = counted_by ss (has_statement xs) at xs acts m h
