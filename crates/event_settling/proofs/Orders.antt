-- The order in which processes are taken by level, and what is chosen.
use Rattle.std.proofs.Common.{◌≡◌, ◌∙◌, ◌⊎◌, ◌+◌, ◌<◌, ◌≤◌, ℕ, zero, suc, Bool, true, false, cond, ◌&&◌, is_some, List, [], ◌∷◌, ◌++◌, map, length, Option, None, Some, refl, sym, ap, subst, inl, inr, arith}
use Rattle.std.specs.List.{filter, range_with_len}
use Rattle.std.proofs.lemmas.Bool.{cases_lt, cases_order, false≢true, ltb-false, ltb-true, true≢false}
use Rattle.event_model.specs.declared.policy.Policy.TheVariants.{Level}
use Rattle.event_model.specs.Writes.{Write}
use Rattle.event_model.specs.Queue.{State, Event, Input, Evaluate, Update, Run, Delayed, Activate, doing_at, is_assignment, is_input}
use Rattle.rtl_flat.specs.Flats.{Flat}
use Rattle.event_model.specs.Order.{first_delayed, inputs, updates, woken, woken_event}
use Rattle.event_model.specs.Policies.{chosen, first_of, is_below, lower, lowest, lowest_event}
use Rattle.event_model.proofs.Active.{Each, each_append, assignment_is, none_passes, signal_there, task_there}

-- ---- three numbers one after another

abbrev Lex : ℕ → ℕ → ℕ → ℕ → ℕ → ℕ → Type 0
Lex a b c x y z = (a < x) ⊎ ((a ≡ x) × ((b < y) ⊎ ((b ≡ y) × (c < z))))

lex_then : (a b c x y z u v w : ℕ) → Lex a b c x y z → Lex x y z u v w → Lex a b c u v w
lex_then a b c x y z u v w h k = grind arith

lex_not : (a b c : ℕ) → Lex a b c a b c → ⊥
lex_not a b c h = grind arith

-- none comes last
abbrev last : Option ℕ → ℕ
last None = 1
last (Some n) = 0

abbrev number : Option ℕ → ℕ
number None = 0
number (Some n) = n

-- whether process p is taken before q where both are woken
pub record Before (level : ℕ → Option ℕ) (p q : ℕ) : Type 0 where
  lex : Lex (last (level p)) (number (level p)) p (last (level q)) (number (level q)) q

pub before_then : (level : ℕ → Option ℕ) (p q r : ℕ) → Before level p q → Before level q r → Before level p r
before_then level p q r h k =
    record {
      lex = lex_then (last (level p)) (number (level p)) p (last (level q)) (number (level q)) q (last (level r)) (number (level r)) r h.lex k.lex;
    }

pub not_before : (level : ℕ → Option ℕ) (p : ℕ) → Before level p p → ⊥
not_before level p h = lex_not (last (level p)) (number (level p)) p h.lex

-- ---- the lowest of some

below_lex : (a b : Option ℕ) (p q : ℕ) → is_below a b ≡ true → Lex (last a) (number a) p (last b) (number b) q
below_lex (Some a) (Some b) p q h = let less = ltb-true a b h in inr (refl, inl less)
below_lex (Some a) None p q h = inl (omega arith)
below_lex None b p q h = absurd (false≢true h)

-- a process of a higher level comes after
pub before_above : (level : ℕ → Option ℕ) (p q : ℕ) → is_below (level p) (level q) ≡ true → Before level p q
before_above level p q above = record { lex = below_lex (level p) (level q) p q above }

above_lex : (a b : Option ℕ) (p q : ℕ) → is_below b a ≡ false → p < q → Lex (last a) (number a) p (last b) (number b) q
above_lex (Some a) (Some b) p q h less =
    let most = ltb-false b a h in
    elim (cases_order a b) [
      | inl same ↦ inr (refl, inr (same, less))
      | inr (inl below) ↦ inr (refl, inl below)
      | inr (inr above) ↦ absurd (omega (arith, most, above))
    ]
above_lex (Some a) None p q h less = inl (omega arith)
above_lex None (Some b) p q h less = absurd (true≢false h)
above_lex None None p q h less = inr (refl, inr (refl, less))

-- of the numbers from low on, n of them, that pass a test: none; or the first in this order
abbrev IsFirst : (ℕ → Option ℕ) → (ℕ → Bool) → ℕ → ℕ → Option ℕ → Type 0
IsFirst level test low n None = (k : ℕ) → low ≤ k → k < low + n → test k ≡ false
IsFirst level test low n (Some p) =
    (low ≤ p) × (p < low + n) × (test p ≡ true) × ((k : ℕ) → low ≤ k → k < low + n → test k ≡ true → (k ≡ p) ⊎ Before level p k)

more : (low k : ℕ) → low ≤ k → (k ≡ low) ⊎ (low + 1 ≤ k)
more low k h = elim (cases_lt low k) [ inl above ↦ inr (omega (arith, above)) | inr past ↦ inl (omega (arith, h, past)) ]

-- one more number in front
not_it :
    (level : ℕ → Option ℕ) (test : ℕ → Bool) (low n : ℕ) (o : Option ℕ) → test low ≡ false → IsFirst level test (low + 1) n o →
    IsFirst level test low (suc n) o
not_it level test low n None fails h =
    λ k from below. elim (more low k from) [
      | inl here ↦ ap test here ∙ fails
      | inr above ↦ h k above (omega (arith, below))
    ]
not_it level test low n (Some p) fails h = (
  omega (arith, h.0),
  omega (arith, h.1),
  h.2,
  λ k from below passes. elim (more low k from) [
    | inl here ↦ absurd (true≢false (sym passes ∙ ap test here ∙ fails))
    | inr above ↦ h.3 k above (omega (arith, below)) passes
  ],
)

by_lower :
    (level : ℕ → Option ℕ) (test : ℕ → Bool) (low n q : ℕ) (b : Bool) → is_below (level q) (level low) ≡ b → test low ≡ true →
    IsFirst level test (low + 1) n (Some q) → IsFirst level test low (suc n) (Some (cond b q low))
by_lower level test low n q true is passes h = (
  omega (arith, h.0),
  omega (arith, h.1),
  h.2,
  λ k from below passes'. elim (more low k from) [
    | inl here ↦ inr (record { lex = subst (λ (j : ℕ). Lex (last (level q)) (number (level q)) q (last (level j)) (number (level j)) j) (sym here) (below_lex (level q) (level low) q low is) })
    | inr above ↦ h.3 k above (omega (arith, below)) passes'
  ],
)
by_lower level test low n q false is passes h =
    let first : Before level low q = record { lex = above_lex (level low) (level q) low q is (omega (arith, h.0)) } in (
      omega arith,
      omega arith,
      passes,
      λ k from below passes'. elim (more low k from) [
        | inl here ↦ inl here
        | inr above ↦ inr (elim (h.3 k above (omega (arith, below)) passes') [
          | inl it ↦ subst (λ (j : ℕ). Before level low j) (sym it) first
          | inr after ↦ before_then level low q k first after
        ])
      ],
    )

it_is :
    (level : ℕ → Option ℕ) (test : ℕ → Bool) (low n : ℕ) (o : Option ℕ) → test low ≡ true → IsFirst level test (low + 1) n o →
    IsFirst level test low (suc n) (Some (lower level low o))
it_is level test low n None passes h = (
  omega arith,
  omega arith,
  passes,
  λ k from below passes'. elim (more low k from) [
    | inl here ↦ inl here
    | inr above ↦ absurd (true≢false (sym passes' ∙ h k above (omega (arith, below))))
  ],
)
it_is level test low n (Some q) passes h = by_lower level test low n q (is_below (level q) (level low)) refl passes h

by_test :
    (level : ℕ → Option ℕ) (test : ℕ → Bool) (low n : ℕ) (xs : List ℕ) (b : Bool) → test low ≡ b → IsFirst level test (low + 1) n (lowest level xs) →
    IsFirst level test low (suc n) (lowest level (cond b (low ∷ xs) xs))
by_test level test low n xs true is h = it_is level test low n (lowest level xs) is h
by_test level test low n xs false is h = not_it level test low n (lowest level xs) is h

first_from : (level : ℕ → Option ℕ) (test : ℕ → Bool) (low n : ℕ) → IsFirst level test low n (lowest level (filter test (range_with_len low n)))
first_from level test low zero = λ k from below. absurd (omega (arith, from, below))
first_from level test low (suc n) =
    by_test level test low n (filter test (range_with_len (low + 1) n)) (test low) refl (first_from level test (low + 1) n)

-- ---- what is chosen by level

-- a woken process that is chosen: nothing else is active, and no woken process comes before it
pub record IsLeast (level : ℕ → Option ℕ) (d : Flat) (s : State) (p : ℕ) : Type 0 where
  pub inside : p < length d.tasks
  pub woken : s.woken p ≡ true
  pub inputs : (i : ℕ) → is_input d i ≡ true → s.offered i ≡ None
  pub drivers : (q : ℕ) → is_assignment (doing_at d q) ≡ true → s.pending q ≡ None
  pub updates : s.activated ≡ []
  pub least : (q : ℕ) → q < length d.tasks → s.woken q ≡ true → (q ≡ p) ⊎ Before level p q

abbrev pub IsChosen : (ℕ → Option ℕ) → Flat → State → Event → Type 0
IsChosen level d s (Input i) = Unit {0}
IsChosen level d s (Evaluate p) = IsLeast level d s p
IsChosen level d s (Update p) = Unit {0}
IsChosen level d s (Run p) = IsLeast level d s p
IsChosen level d s Delayed = Unit {0}
IsChosen level d s Activate = ⊥

none_of : {A : Type 0} (b : Bool) (o : Option A) → b ≡ true → (b && is_some o) ≡ false → o ≡ None
none_of b None e f = refl
none_of true (Some x) e f = absurd (true≢false f)
none_of false (Some x) e f = absurd (false≢true e)

map_none : {A B : Type 0} (f : A → B) (xs : List A) → map f xs ≡ [] → xs ≡ []
map_none f [] e = refl
map_none f (x ∷ xs) e = absurd (let z : f x ∷ map f xs ≡ [] = e in cc)

append_none : {A : Type 0} (xs ys : List A) → xs ++ ys ≡ [] → (xs ≡ []) × (ys ≡ [])
append_none [] ys e = (refl, e)
append_none (x ∷ xs) ys e = absurd (let z : x ∷ (xs ++ ys) ≡ [] = e in cc)

delayed_none : (us : List (List Write)) → first_delayed us ≡ [] → us ≡ []
delayed_none [] e = refl
delayed_none (u ∷ us) e = cc

-- the first of two lists one after another
first_append :
    {A : Type 0} (P : A → Type 0) (xs ys : List A) (x : A) → Each P xs → (xs ≡ [] → first_of ys ≡ Some x → P x) →
    first_of (xs ++ ys) ≡ Some x → P x
first_append P [] ys x each other e = other refl e
first_append P (y ∷ xs) ys x each other e = let same : y ≡ x = cc in subst P same each.0

free_inputs : (level : ℕ → Option ℕ) (d : Flat) (s : State) (is : List ℕ) → Each (IsChosen level d s) (map Input is)
free_inputs level d s [] = tt
free_inputs level d s (i ∷ is) = (tt, free_inputs level d s is)

free_updates : (level : ℕ → Option ℕ) (d : Flat) (s : State) (ps : List ℕ) → Each (IsChosen level d s) (map Update ps)
free_updates level d s [] = tt
free_updates level d s (p ∷ ps) = (tt, free_updates level d s ps)

free_delayed : (level : ℕ → Option ℕ) (d : Flat) (s : State) (us : List (List Write)) → Each (IsChosen level d s) (first_delayed us)
free_delayed level d s [] = tt
free_delayed level d s (u ∷ us) = (tt, tt)

woken_is : (level : ℕ → Option ℕ) (d : Flat) (s : State) (p : ℕ) (b : Bool) → IsLeast level d s p → IsChosen level d s (cond b (Evaluate p) (Run p))
woken_is level d s p true h = h
woken_is level d s p false h = h

pub choice : (level : ℕ → Option ℕ) (d : Flat) (s : State) (event : Event) → chosen Level level d s ≡ Some event → IsChosen level d s event
choice level d s event e =
    first_append (IsChosen level d s) ((map Input (inputs d s) ++ map Update (updates d s)) ++ first_delayed s.activated)
    (lowest_event d (lowest level (woken d s))) event
    (each_append (IsChosen level d s) (map Input (inputs d s) ++ map Update (updates d s)) (first_delayed s.activated)
    (each_append (IsChosen level d s) (map Input (inputs d s)) (map Update (updates d s)) (free_inputs level d s (inputs d s)) (free_updates level d s (updates d s)))
    (free_delayed level d s s.activated))
    (λ none is. by_lowest none (lowest level (woken d s)) (first_from level s.woken 0 (length d.tasks)) is) e
  where
    by_lowest :
        (map Input (inputs d s) ++ map Update (updates d s)) ++ first_delayed s.activated ≡ [] → (o : Option ℕ) →
        IsFirst level s.woken 0 (length d.tasks) o → first_of (lowest_event d o) ≡ Some event → IsChosen level d s event
    by_lowest none None first is = absurd (let z : None ≡ Some event = is in cc)
    by_lowest none (Some p) first is =
        let a = append_none (map Input (inputs d s) ++ map Update (updates d s)) (first_delayed s.activated) none in
        let b = append_none (map Input (inputs d s)) (map Update (updates d s)) a.0 in
        let c = map_none Input (inputs d s) b.0 in
        let u = map_none Update (updates d s) b.1 in
        let same : woken_event d p ≡ event = cc in
        subst (IsChosen level d s) same
        (woken_is level d s p (is_assignment (doing_at d p)) (record {
          inside = omega (arith, first.1);
          woken = first.2;
          inputs = λ i input. none_of (is_input d i) (s.offered i) input (none_passes (length d.signals) (λ j. is_input d j && is_some (s.offered j)) i c (signal_there d i input));
          drivers = λ q is. none_of (is_assignment (doing_at d q)) (s.pending q) is (none_passes (length d.tasks) (λ j. is_assignment (doing_at d j) && is_some (s.pending j)) q u (task_there d q (assignment_is (doing_at d q) is)));
          updates = delayed_none s.activated a.1;
          least = λ q inside woken. first.3 q (omega arith) (omega (arith, inside)) woken;
        }))
