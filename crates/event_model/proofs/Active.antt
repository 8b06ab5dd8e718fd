-- The active events of a state are those that are there.
use Rattle.std.proofs.Common.{◌≡◌, ◌∙◌, ℕ, zero, suc, ◌+◌, ◌<◌, ◌≤◌, Bool, true, false, cond, ◌&&◌, IsSome, is_some, List, [], ◌∷◌, ◌++◌, map, length, Option, None, Some, refl, sym, ap, subst, inl, inr, arith}
use Rattle.std.specs.List.{filter, range_with_len, slice_get}
use Rattle.std.proofs.lemmas.Bool.{and_parts, cases_lt, false≢true, true≢false}
use Rattle.std.proofs.lemmas.Option.{slice_get_cases}
use Rattle.rtl_flat.specs.Process.{Doing, Assign, Comb, Edge', Task}
use Rattle.event_model.specs.Writes.{Write}
use Rattle.event_model.specs.Queue.{State, Event, Input, Evaluate, Update, Run, doing_of, doing_at, is_input, is_input_of, is_assignment, is_body, HasNoActive, IsThere, IsAtRest}
use Rattle.rtl_flat.specs.Flats.{Flat}
use Rattle.event_model.specs.Order.{numbers, woken_event, inputs, updates, woken, first_delayed, active, ready_where, ready, IsReady}

-- ---- lists

-- each element of a list
abbrev pub Each : {A : Type 0} → (A → Type 0) → List A → Type 0
Each P [] = Unit {0}
Each P (x ∷ xs) = P x × Each P xs

pub each_append : {A : Type 0} (P : A → Type 0) (xs ys : List A) → Each P xs → Each P ys → Each P (xs ++ ys)
each_append P [] ys a b = b
each_append P (x ∷ xs) ys a b = (a.0, each_append P xs ys a.1 b)

pub each_map : {A B : Type 0} (P : A → Type 0) (Q : B → Type 0) (f : A → B) → ((x : A) → P x → Q (f x)) → (xs : List A) → Each P xs → Each Q (map f xs)
each_map P Q f h [] a = tt
each_map P Q f h (x ∷ xs) a = (h x a.0, each_map P Q f h xs a.1)

-- what passes a test
kept : {A : Type 0} (P : A → Type 0) (test : A → Bool) (x : A) (xs : List A) → (b : Bool) → test x ≡ b → P x → Each (λ y. P y × (test y ≡ true)) (filter test xs) → Each (λ y. P y × (test y ≡ true)) (cond b (x ∷ filter test xs) (filter test xs))
kept P test x xs true e p others = ((p, e), others)
kept P test x xs false e p others = others

each_filter : {A : Type 0} (P : A → Type 0) (test : A → Bool) (xs : List A) → Each P xs → Each (λ x. P x × (test x ≡ true)) (filter test xs)
each_filter P test [] a = tt
each_filter P test (x ∷ xs) a = kept P test x xs (test x) refl a.0 (each_filter P test xs a.1)

each_range : (low n : ℕ) → Each (λ k. k < low + n) (range_with_len low n)
each_range low zero = tt
each_range low (suc n) =
    (omega arith, subst (λ m. Each (λ k. k < m) (range_with_len (low + 1) n)) (omega arith) (each_range (low + 1) n))

-- the numbers that pass a test are below the limit and pass it
pub numbers_pass : (limit : ℕ) (test : ℕ → Bool) → Each (λ k. (k < limit) × (test k ≡ true)) (numbers limit test)
numbers_pass limit test =
    each_filter (λ k. k < limit) test (range_with_len 0 limit) (subst (λ m. Each (λ k. k < m) (range_with_len 0 limit)) (omega arith) (each_range 0 limit))

-- where none passes, each below the limit fails
none_kept : {A : Type 0} (test : A → Bool) (x : A) (xs : List A) (b : Bool) → test x ≡ b → cond b (x ∷ filter test xs) (filter test xs) ≡ [] → (test x ≡ false) × (filter test xs ≡ [])
none_kept test x xs true e h = cc
none_kept test x xs false e h = (e, h)

none_in : (test : ℕ → Bool) (low n k : ℕ) → filter test (range_with_len low n) ≡ [] → low ≤ k → k < low + n → test k ≡ false
none_in test low zero k h a b = absurd (omega (arith, a, b))
none_in test low (suc n) k h a b =
    let v = none_kept test low (range_with_len (low + 1) n) (test low) refl h in
    elim (cases_lt low k) [
      | inl above ↦ none_in test (low + 1) n k v.1 (omega (arith, above)) (omega (arith, b))
      | inr below ↦ subst (λ j. test j ≡ false) (omega (arith, a, below)) v.0
    ]

pub none_passes : (limit : ℕ) (test : ℕ → Bool) (k : ℕ) → numbers limit test ≡ [] → k < limit → test k ≡ false
none_passes limit test k h l = none_in test 0 limit k h (omega arith) (omega (arith, l))

-- ---- what is active is there

there_input : (d : Flat) (s : State) (i : ℕ) → (i < length d.signals) × ((is_input d i && is_some (s.offered i)) ≡ true) → IsThere d s (Input i)
there_input d s i h = and_parts (is_input d i) (is_some (s.offered i)) h.1

there_update : (d : Flat) (s : State) (p : ℕ) → (p < length d.tasks) × ((is_assignment (doing_at d p) && is_some (s.pending p)) ≡ true) → IsThere d s (Update p)
there_update d s p h = and_parts (is_assignment (doing_at d p)) (is_some (s.pending p)) h.1

either_kind : (o : Option Task) (t : Task) → o ≡ Some t → is_assignment (doing_of o) ≡ false → is_body (doing_of o) ≡ true
either_kind o t e h = kind_of t.does (ap (λ x. is_assignment (doing_of x)) (sym e) ∙ h) (ap (λ x. is_body (doing_of x)) e)
  where
    kind_of : (does : Doing) → is_assignment (Some does) ≡ false → is_body (doing_of o) ≡ is_body (Some does) → is_body (doing_of o) ≡ true
    kind_of (Assign target e) h f = absurd (true≢false h)
    kind_of (Comb list body) h f = f
    kind_of (Edge' events body) h f = f

there_by : (d : Flat) (s : State) (p : ℕ) (b : Bool) (t : Task) → slice_get d.tasks p ≡ Some t → is_assignment (doing_at d p) ≡ b → s.woken p ≡ true → IsThere d s (cond b (Evaluate p) (Run p))
there_by d s p true t e f w = (f, w)
there_by d s p false t e f w = (either_kind (slice_get d.tasks p) t e f, w)

there_woken : (d : Flat) (s : State) (p : ℕ) → (p < length d.tasks) × (s.woken p ≡ true) → IsThere d s (woken_event d p)
there_woken d s p h =
    elim (slice_get_cases d.tasks p).1 [
      | inl found ↦ there_by d s p (is_assignment (doing_at d p)) found.0 found.2 refl h.1
      | inr past ↦ absurd (omega (arith, h.0, past.0))
    ]

pub there_delayed : (d : Flat) (s : State) (ws : List (List Write)) → s.activated ≡ ws → Each (IsThere d s) (first_delayed ws)
there_delayed d s [] e = tt
there_delayed d s (w ∷ ws) e = ((λ h. nil_cons w ws (sym h ∙ e)), tt)
  where
    nil_cons : {A : Type 0} (x : A) (xs : List A) → [] ≡ x ∷ xs → ⊥
    nil_cons x xs h = cc

pub there_inputs : (d : Flat) (s : State) → Each (IsThere d s) (map Input (inputs d s))
there_inputs d s =
    each_map (λ i. (i < length d.signals) × ((is_input d i && is_some (s.offered i)) ≡ true)) (IsThere d s) Input (there_input d s) (inputs d s) (numbers_pass (length d.signals) (λ i. is_input d i && is_some (s.offered i)))

pub there_updates : (d : Flat) (s : State) → Each (IsThere d s) (map Update (updates d s))
there_updates d s =
    each_map (λ p. (p < length d.tasks) × ((is_assignment (doing_at d p) && is_some (s.pending p)) ≡ true)) (IsThere d s) Update (there_update d s) (updates d s) (numbers_pass (length d.tasks) (λ p. is_assignment (doing_at d p) && is_some (s.pending p)))

pub woken_are : (d : Flat) (s : State) → Each (λ p. IsThere d s (woken_event d p)) (woken d s)
woken_are d s = each_all (woken d s) (numbers_pass (length d.tasks) s.woken)
  where
    each_all : (ps : List ℕ) → Each (λ p. (p < length d.tasks) × (s.woken p ≡ true)) ps → Each (λ p. IsThere d s (woken_event d p)) ps
    each_all [] h = tt
    each_all (p ∷ ps) h = (there_woken d s p h.0, each_all ps h.1)

there_runs : (d : Flat) (s : State) → Each (IsThere d s) (map (woken_event d) (woken d s))
there_runs d s =
    each_map (λ p. IsThere d s (woken_event d p)) (IsThere d s) (woken_event d) (λ p h. h) (woken d s) (woken_are d s)

pub all_there : (d : Flat) (s : State) → Each (IsThere d s) (active d s)
all_there d s =
    each_append (IsThere d s) ((map Input (inputs d s) ++ map Update (updates d s)) ++ map (woken_event d) (woken d s)) (first_delayed s.activated)
    (each_append (IsThere d s) (map Input (inputs d s) ++ map Update (updates d s)) (map (woken_event d) (woken d s))
    (each_append (IsThere d s) (map Input (inputs d s)) (map Update (updates d s)) (there_inputs d s) (there_updates d s)) (there_runs d s))
    (there_delayed d s s.activated refl)

-- ---- what is there is active

append_none : {A : Type 0} (xs ys : List A) → xs ++ ys ≡ [] → (xs ≡ []) × (ys ≡ [])
append_none [] ys e = (refl, e)
append_none (x ∷ xs) ys e = absurd (let z : x ∷ (xs ++ ys) ≡ [] = e in cc)

map_none : {A B : Type 0} (f : A → B) (xs : List A) → map f xs ≡ [] → xs ≡ []
map_none f [] e = refl
map_none f (x ∷ xs) e = absurd (let z : f x ∷ map f xs ≡ [] = e in cc)

delayed_none : (ws : List (List Write)) → first_delayed ws ≡ [] → ws ≡ []
delayed_none [] e = refl
delayed_none (w ∷ ws) e = cc

-- the four kinds of active events
pub record HasNone (d : Flat) (s : State) : Type 0 where
  pub inputs : inputs d s ≡ []
  pub updates : updates d s ≡ []
  pub woken : woken d s ≡ []
  pub activated : s.activated ≡ []

pub has_none : (d : Flat) (s : State) → active d s ≡ [] → HasNone d s
has_none d s e =
    let a = append_none ((map Input (inputs d s) ++ map Update (updates d s)) ++ map (woken_event d) (woken d s)) (first_delayed s.activated) e in
    let b = append_none (map Input (inputs d s) ++ map Update (updates d s)) (map (woken_event d) (woken d s)) a.0 in
    let c = append_none (map Input (inputs d s)) (map Update (updates d s)) b.0 in
    record {
      inputs = map_none Input (inputs d s) c.0;
      updates = map_none Update (updates d s) c.1;
      woken = map_none (woken_event d) (woken d s) b.1;
      activated = delayed_none s.activated a.1;
    }

none_of : {A : Type 0} (b : Bool) (o : Option A) → b ≡ true → (b && is_some o) ≡ false → o ≡ None
none_of b None e f = refl
none_of true (Some x) e f = absurd (true≢false f)
none_of false (Some x) e f = absurd (false≢true e)

pub signal_there : (d : Flat) (i : ℕ) → is_input d i ≡ true → i < length d.signals
signal_there d i e =
    elim (slice_get_cases d.signals i).1 [
      | inl found ↦ found.1
      | inr past ↦ absurd (false≢true (ap is_input_of (sym past.1) ∙ e))
    ]

pub task_there : (d : Flat) (p : ℕ) → IsSome (doing_at d p) → p < length d.tasks
task_there d p e =
    elim (slice_get_cases d.tasks p).1 [
      | inl found ↦ found.1
      | inr past ↦ absurd (false≢true (ap (λ o. is_some (doing_of o)) (sym past.1) ∙ e))
    ]

pub assignment_is : (o : Option Doing) → is_assignment o ≡ true → IsSome o
assignment_is (Some does) e = refl
assignment_is None e = absurd (false≢true e)

pub no_active : (d : Flat) (s : State) → active d s ≡ [] → HasNoActive d s
no_active d s e =
    let none = has_none d s e in
    record {
      inputs = λ i h. none_of (is_input d i) (s.offered i) h (none_passes (length d.signals) (λ j. is_input d j && is_some (s.offered j)) i none.inputs (signal_there d i h));
      processes = λ p h. none_passes (length d.tasks) s.woken p none.woken (task_there d p h);
      drivers = λ p h. none_of (is_assignment (doing_at d p)) (s.pending p) h (none_passes (length d.tasks) (λ q. is_assignment (doing_at d q) && is_some (s.pending q)) p none.updates (task_there d p (assignment_is (doing_at d p) h)));
      updates = none.activated;
    }

-- ---- what is made ready

cons_none : {A : Type 0} (x : A) (xs : List A) → x ∷ xs ≡ [] → ⊥
cons_none x xs h = cc

ready_by : (d : Flat) (s : State) (es : List Event) → active d s ≡ es → IsReady d (ready_where d s es)
ready_by d s [] e = λ h. refl
ready_by d s (x ∷ xs) e = λ h. absurd (cons_none x xs (sym e ∙ h))

-- a state that was made ready is so
pub is_ready : (d : Flat) (s : State) → IsReady d (ready d s)
is_ready d s = ready_by d s (active d s) refl

-- where nothing is active in a ready state, no event is left
pub at_rest : (d : Flat) (s : State) → IsReady d s → active d s ≡ [] → IsAtRest d s
at_rest d s r e = record { no_active = no_active d s e; no_delayed = r e }
