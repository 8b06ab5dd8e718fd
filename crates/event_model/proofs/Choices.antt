-- The list of active events has just the active events that may be taken.
use Rattle.std.proofs.Common.{◌≡◌, ◌∙◌, ◌≢◌, ◌⊎◌, ℕ, zero, suc, ◌+◌, ◌<◌, ◌≤◌, Bool, true, false, cond, ◌&&◌, is_some, List, [], ◌∷◌, ◌++◌, map, length, get_or, Option, None, Some, Contains, refl, sym, ap, subst, inl, inr, arith}
use Rattle.std.specs.List.{filter, range_with_len}
use Rattle.std.proofs.lemmas.Bool.{and_from, cases_lt, false≢true, true≢false}
use Rattle.std.proofs.lemmas.List.Elements.{Contains-append_right}
use Rattle.rtl_flat.specs.Process.{Doing, Assign, Comb, Edge'}
use Rattle.event_model.specs.Writes.{Write}
use Rattle.event_model.specs.Queue.{State, Event, Input, Evaluate, Update, Run, Delayed, Activate, doing_at, is_input, is_assignment, is_body, HasNoActive, IsThere}
use Rattle.rtl_flat.specs.Flats.{Flat}
use Rattle.event_model.specs.Order.{numbers, woken_event, inputs, updates, woken, first_delayed, active, HasAllActive, IsReady, HasAll}
use Rattle.event_model.proofs.Active.{Each, each_append, each_map, numbers_pass, signal_there, task_there, assignment_is, all_there}

-- ---- elements of lists

-- whether a list has an element
abbrev IsIn : {A : Type 0} → A → List A → Type 0
IsIn x [] = ⊥
IsIn x (y ∷ ys) = (y ≡ x) ⊎ IsIn x ys

in_left : {A : Type 0} (x : A) (xs ys : List A) → IsIn x xs → IsIn x (xs ++ ys)
in_left x [] ys h = absurd h
in_left x (y ∷ xs) ys (inl here) = inl here
in_left x (y ∷ xs) ys (inr there) = inr (in_left x xs ys there)

in_right : {A : Type 0} (x : A) (xs ys : List A) → IsIn x ys → IsIn x (xs ++ ys)
in_right x [] ys h = h
in_right x (y ∷ xs) ys h = inr (in_right x xs ys h)

in_map : {A B : Type 0} (f : A → B) (x : A) (xs : List A) → IsIn x xs → IsIn (f x) (map f xs)
in_map f x [] h = absurd h
in_map f x (y ∷ xs) (inl here) = inl (ap f here)
in_map f x (y ∷ xs) (inr there) = inr (in_map f x xs there)

contains : {A : Type 0} (x : A) (xs : List A) → IsIn x xs → Contains xs x
contains x [] h = absurd h
contains x (y ∷ xs) (inl here) = (0, omega arith, here)
contains x (y ∷ xs) (inr there) = Contains-append_right (y ∷ []) xs x (contains x xs there)

each_at : {A : Type 0} (P : A → Type 0) (xs : List A) (x : A) → Each P xs → (k : ℕ) → k < length xs → P (get_or xs k x)
each_at P [] x h k below = absurd (omega (arith, below))
each_at P (y ∷ xs) x h zero below = h.0
each_at P (y ∷ xs) x h (suc k) below = each_at P xs x h.1 k (omega (arith, below))

each_has : {A : Type 0} (P : A → Type 0) (xs : List A) (x : A) → Each P xs → Contains xs x → P x
each_has P xs x h has = subst P has.2 (each_at P xs x h has.0 has.1)

-- ---- numbers that pass a test

kept_behind : (x y : ℕ) (xs : List ℕ) (b : Bool) → IsIn x xs → IsIn x (cond b (y ∷ xs) xs)
kept_behind x y xs true h = inr h
kept_behind x y xs false h = h

kept_here : (x : ℕ) (xs : List ℕ) (b : Bool) → b ≡ true → IsIn x (cond b (x ∷ xs) xs)
kept_here x xs true e = inl refl
kept_here x xs false e = absurd (false≢true e)

in_range : (test : ℕ → Bool) (low n k : ℕ) → low ≤ k → k < low + n → test k ≡ true → IsIn k (filter test (range_with_len low n))
in_range test low zero k from below passes = absurd (omega (arith, from, below))
in_range test low (suc n) k from below passes =
    elim (cases_lt low k) [
      | inl above ↦
          kept_behind k low (filter test (range_with_len (low + 1) n)) (test low)
          (in_range test (low + 1) n k (omega (arith, above)) (omega (arith, below)) passes)
      | inr not_above ↦
          let same : k ≡ low = omega (arith, from, not_above) in
          subst (λ j. IsIn j (filter test (range_with_len low (suc n)))) (sym same)
          (kept_here low (filter test (range_with_len (low + 1) n)) (test low) (ap test (sym same) ∙ passes))
    ]

in_numbers : (limit : ℕ) (test : ℕ → Bool) (k : ℕ) → k < limit → test k ≡ true → IsIn k (numbers limit test)
in_numbers limit test k below passes =
    in_range test 0 limit k (omega arith) (omega (arith, below)) passes

-- ---- what may be taken is in the list

module _ (d : Flat) (s : State) where
  first_three : (event : Event) → IsIn event ((map Input (inputs d s) ++ map Update (updates d s)) ++ map (woken_event d) (woken d s)) → IsIn event (active d s)
  first_three event h =
      in_left event ((map Input (inputs d s) ++ map Update (updates d s)) ++ map (woken_event d) (woken d s)) (first_delayed s.activated) h

  first_two : (event : Event) → IsIn event (map Input (inputs d s) ++ map Update (updates d s)) → IsIn event (active d s)
  first_two event h =
      first_three event (in_left event (map Input (inputs d s) ++ map Update (updates d s)) (map (woken_event d) (woken d s)) h)

  has_input : (i : ℕ) → IsThere d s (Input i) → IsIn (Input i) (active d s)
  has_input i h =
      first_two (Input i) (in_left (Input i) (map Input (inputs d s)) (map Update (updates d s)) (in_map Input i (inputs d s)
      (in_numbers (length d.signals) (λ j. is_input d j && is_some (s.offered j)) i (signal_there d i h.0)
      (and_from (is_input d i) (is_some (s.offered i)) h.0 h.1))))

  has_update : (p : ℕ) → IsThere d s (Update p) → IsIn (Update p) (active d s)
  has_update p h =
      first_two (Update p) (in_right (Update p) (map Input (inputs d s)) (map Update (updates d s)) (in_map Update p (updates d s)
      (in_numbers (length d.tasks) (λ q. is_assignment (doing_at d q) && is_some (s.pending q)) p (task_there d p (assignment_is (doing_at d p) h.0))
      (and_from (is_assignment (doing_at d p)) (is_some (s.pending p)) h.0 h.1))))

  has_woken : (p : ℕ) → p < length d.tasks → s.woken p ≡ true → IsIn (woken_event d p) (active d s)
  has_woken p below is =
      first_three (woken_event d p) (in_right (woken_event d p) (map Input (inputs d s) ++ map Update (updates d s)) (map (woken_event d) (woken d s))
      (in_map (woken_event d) p (woken d s) (in_numbers (length d.tasks) s.woken p below is)))

  has_delayed : (us : List (List Write)) → s.activated ≡ us → us ≢ [] → IsIn Delayed (first_delayed us)
  has_delayed [] e some = absurd (some refl)
  has_delayed (u ∷ us) e some = inl refl

-- a body is no assignment
body_is : (o : Option Doing) → is_body o ≡ true → (is_assignment o ≡ false) × (is_some o ≡ true)
body_is None e = absurd (false≢true e)
body_is (Some (Assign target e')) e = absurd (false≢true e)
body_is (Some (Comb list body)) e = (refl, refl)
body_is (Some (Edge' events body)) e = (refl, refl)

has_active : (d : Flat) (s : State) (event : Event) → IsThere d s event → event ≢ Activate → IsIn event (active d s)
has_active d s (Input i) h other = has_input d s i h
has_active d s (Evaluate p) h other =
    subst (λ event. IsIn event (active d s)) (ap (λ b. cond b (Evaluate p) (Run p)) h.0)
    (has_woken d s p (task_there d p (assignment_is (doing_at d p) h.0)) h.1)
has_active d s (Update p) h other = has_update d s p h
has_active d s (Run p) h other =
    let is = body_is (doing_at d p) h.0 in
    subst (λ event. IsIn event (active d s)) (ap (λ b. cond b (Evaluate p) (Run p)) is.0) (has_woken d s p (task_there d p is.1) h.1)
has_active d s Delayed h other =
    in_right Delayed ((map Input (inputs d s) ++ map Update (updates d s)) ++ map (woken_event d) (woken d s)) (first_delayed s.activated) (has_delayed d s s.activated refl h)
has_active d s Activate h other = absurd (other refl)

-- ---- what is in the list may be taken

abbrev IsOther : Event → Type 0
IsOther event = event ≢ Activate

woken_other : (p : ℕ) (b : Bool) → IsOther (cond b (Evaluate p) (Run p))
woken_other p true e = cc
woken_other p false e = cc

delayed_other : (us : List (List Write)) → Each IsOther (first_delayed us)
delayed_other [] = tt
delayed_other (u ∷ us) = ((λ e. cc), tt)

numbered_other : (f : ℕ → Event) → ((k : ℕ) → IsOther (f k)) → (limit : ℕ) (test : ℕ → Bool) → Each IsOther (map f (numbers limit test))
numbered_other f other limit test =
    each_map (λ k. (k < limit) × (test k ≡ true)) IsOther f (λ k h. other k) (numbers limit test) (numbers_pass limit test)

all_other : (d : Flat) (s : State) → Each IsOther (active d s)
all_other d s =
    each_append IsOther ((map Input (inputs d s) ++ map Update (updates d s)) ++ map (woken_event d) (woken d s)) (first_delayed s.activated)
    (each_append IsOther (map Input (inputs d s) ++ map Update (updates d s)) (map (woken_event d) (woken d s))
    (each_append IsOther (map Input (inputs d s)) (map Update (updates d s))
    (numbered_other Input (λ k e. cc) (length d.signals) (λ i. is_input d i && is_some (s.offered i)))
    (numbered_other Update (λ k e. cc) (length d.tasks) (λ p. is_assignment (doing_at d p) && is_some (s.pending p))))
    (numbered_other (woken_event d) (λ p. woken_other p (is_assignment (doing_at d p))) (length d.tasks) s.woken))
    (delayed_other s.activated)

pub active_are_there : (d : Flat) (s : State) → HasAllActive d s
active_are_there d s event = (
  λ has. (each_has (IsThere d s) (active d s) event (all_there d s) has, each_has IsOther (active d s) event (all_other d s) has),
  λ h. contains event (active d s) (has_active d s event h.0 h.1),
)

-- ---- a state that is ready

some_or_none : {A : Type 0} (o : Option A) → is_some o ≡ true → o ≡ None → ⊥
some_or_none (Some x) is none = absurd (cc)
some_or_none None is none = false≢true is

-- where no active event is left, none may be taken but the one that makes nonblocking updates active
none_there : (d : Flat) (s : State) → HasNoActive d s → (event : Event) → IsThere d s event → event ≢ Activate → ⊥
none_there d s none (Input i) h other = some_or_none (s.offered i) h.1 (none.inputs i h.0)
none_there d s none (Evaluate p) h other =
    true≢false (sym h.1 ∙ none.processes p (assignment_is (doing_at d p) h.0))
none_there d s none (Update p) h other = some_or_none (s.pending p) h.1 (none.drivers p h.0)
none_there d s none (Run p) h other =
    true≢false (sym h.1 ∙ none.processes p (body_is (doing_at d p) h.0).1)
none_there d s none Delayed h other = h none.updates
none_there d s none Activate h other = other refl

none_in : (d : Flat) (s : State) → HasNoActive d s → (events : List Event) → Each (IsThere d s) events → Each IsOther events → events ≡ []
none_in d s none [] there other = refl
none_in d s none (event ∷ events) there other = absurd (none_there d s none event there.0 other.0)

pub none_active : (d : Flat) (s : State) → HasNoActive d s → active d s ≡ []
none_active d s none = none_in d s none (active d s) (all_there d s) (all_other d s)

-- the event that makes nonblocking updates active is none that may be taken in a ready state
never_activates : (d : Flat) (s : State) → IsReady d s → (event : Event) → IsThere d s event → event ≢ Activate
never_activates d s ready (Input i) h e = cc
never_activates d s ready (Evaluate p) h e = cc
never_activates d s ready (Update p) h e = cc
never_activates d s ready (Run p) h e = cc
never_activates d s ready Delayed h e = cc
never_activates d s ready Activate h e = h.1 (ready (none_active d s h.0))

pub ready_has_all : (d : Flat) (s : State) → IsReady d s → HasAll d s
ready_has_all d s ready event = (
  λ has. each_has (IsThere d s) (active d s) event (all_there d s) has,
  λ h. contains event (active d s) (has_active d s event h (never_activates d s ready event h)),
)
