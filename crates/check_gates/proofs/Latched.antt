-- Lists of latches with gates, in order.
use Rattle.std.proofs.Common.{◌≡◌, ◌∙◌, ℕ, zero, suc, ◌+◌, ◌<◌, ◌==◌, ◌||◌, if◌then◌else◌, not, cond, Bool, true, false, List, [], ◌∷◌, ◌++◌, length, map, get_or, Option, Some, None, refl, sym, ap, subst, inl, inr, arith}
use Rattle.std.specs.Prelude.{◌⊎◌, ◌↔◌}
use Rattle.std.specs.List.{All, AllByRecursion, Contains, cons_option, dedup, filter_map, list_any, slice_get}
use Rattle.std.specs.Option.{IsSomeAnd, is_some, option_map}
use Rattle.std.proofs.lemmas.Bool.{and_from, and_parts, both_ways, cases_eq, false≢true, or_left}
use Rattle.std.proofs.lemmas.List.Elements.{All-cons, All-nil, All-get_or}
use Rattle.std.specs.List.Sorted.{IsStrictlyIncreasing}
use Rattle.std.proofs.Common.{IsPermutation, eqb}
use Rattle.std.proofs.lemmas.List.Elements.{Contains-get_or}
use Rattle.std.proofs.lemmas.List.Kept.{Contains-dedup_nat, Contains-from_dedup}
use Rattle.std.proofs.lemmas.List.Sorted.{Contains-permutation, IsPermutation-sym}
use Rattle.check_gates.proofs.Reached.{place_of}
use Rattle.std.proofs.lemmas.Option.{none-some, same_Some, slice_get_within, get_or_from_slice_get}
use Rattle.rtl_bits.specs.declared.Bit.{Bit}
use Rattle.rtl_bits.specs.declared.Bit.TheVariants as bit
use Rattle.rtl_bits.specs.Bits.{same_bit}
use Rattle.rtl_flat.specs.Flats.{Flat}
use Rattle.rtl_flat.specs.declared.expr.Compare.TheVariants as compare
use Rattle.rtl_flat.specs.declared.expr.Fold.TheVariants as fold
use Rattle.rtl_flat.specs.declared.expr.Turn.TheVariants as turn
use Rattle.rtl_flat.specs.Expression.{Tree, Sized, Literal, Whole, Turned, Compared, Folded}
use Rattle.rtl_flat.specs.Process.{Task, Comb}
use Rattle.event_model.specs.Queue.{doing_of}
use Rattle.net_model.specs.Gates.{ComesFrom, Gate, IsAdmitted, IsGatedLatch, gate_compared, gate_test}
use Rattle.net_model.proofs.Gates.{from_input}
use Rattle.check_chains.specs.rtl_scan.Arrows.{Among, AreRising}
use Rattle.check_gates.specs.Admitted.{AreGates, AreInOrder, IsBefore, gate_of, gates_of}
use Rattle.check_gates.specs.Forms.{AreForms, IsFormOf, form_view}
use Rattle.check_gates.specs.Latches.{AddsGates, AreInputs, AreLatches, HasGate, admits, gates_at, is_opposed, kept}
use Rattle.check_gates.specs.declared.form.Form.{Form}
use Rattle.check_gates.specs.declared.gate.Gate as declared
use Rattle.check_gates.specs.declared.inputs.Inputs.{Inputs}
use Rattle.check_gates.proofs.Forming.{form_from, latch_from}
use Rattle.check_gates.proofs.Waiting.{input_below}

-- ---- elements of lists

abbrev pub In : {A : Type 0} → List A → A → Type 0
In xs x = (n : ℕ) × (slice_get xs n ≡ Some x)

pub in_nothing : {A : Type 0} (x : A) → In [] x → ⊥
in_nothing x (n, h) = none-some _ h

pub in_head : {A : Type 0} (x : A) (xs : List A) → In (x ∷ xs) x
in_head x xs = (0, refl)

pub in_tail : {A : Type 0} (y : A) (xs : List A) (x : A) → In xs x → In (y ∷ xs) x
in_tail y xs x (n, h) = (suc n, h)

pub in_split : {A : Type 0} (y : A) (xs : List A) (x : A) → In (y ∷ xs) x → (y ≡ x) ⊎ In xs x
in_split y xs x (zero, h) = inl (same_Some y x h)
in_split y xs x (suc n, h) = inr (n, h)

pub in_left : {A : Type 0} (xs ys : List A) (x : A) → In xs x → In (xs ++ ys) x
in_left [] ys x h = absurd (in_nothing x h)
in_left (z ∷ xs) ys x h = elim (in_split z xs x h) [
  | inl here ↦ (0, ap Some here)
  | inr later ↦ in_tail z (xs ++ ys) x (in_left xs ys x later)
]

pub in_right : {A : Type 0} (xs ys : List A) (x : A) → In ys x → In (xs ++ ys) x
in_right [] ys x h = h
in_right (z ∷ xs) ys x h = in_tail z (xs ++ ys) x (in_right xs ys x h)

pub in_cases : {A : Type 0} (xs ys : List A) (x : A) → In (xs ++ ys) x → In xs x ⊎ In ys x
in_cases [] ys x h = inr h
in_cases (z ∷ xs) ys x h = elim (in_split z (xs ++ ys) x h) [
  | inl here ↦ inl (0, ap Some here)
  | inr later ↦ elim (in_cases xs ys x later) [
    | inl first ↦ inl (in_tail z xs x first)
    | inr second ↦ inr second
  ]
]

pub in_map : {A B : Type 0} (f : A → B) (xs : List A) (x : A) → In xs x → In (map f xs) (f x)
in_map f [] x h = absurd (in_nothing x h)
in_map f (z ∷ xs) x h = elim (in_split z xs x h) [
  | inl here ↦ (0, ap (λ (y : _). Some (f y)) here)
  | inr later ↦ in_tail (f z) (map f xs) (f x) (in_map f xs x later)
]

pub map_in : {A B : Type 0} (f : A → B) (xs : List A) (y : B) → In (map f xs) y → (x : A) × In xs x × (f x ≡ y)
map_in f [] y h = absurd (in_nothing y h)
map_in f (z ∷ xs) y h = elim (in_split (f z) (map f xs) y h) [
  | inl here ↦ (z, in_head z xs, here)
  | inr later ↦ let (x, at, is) = map_in f xs y later in (x, in_tail z xs x at, is)
]

pub all_in : {A : Type 0} (P : A → Type 0) (xs : List A) → All P xs → (x : A) → In xs x → P x
all_in P xs all x (n, h) =
    subst P (get_or_from_slice_get xs n x x h) (All-get_or P xs n x (slice_get_within xs n x h) all)

pub in_all : {A : Type 0} (P : A → Type 0) (xs : List A) → ((x : A) → In xs x → P x) → All P xs
in_all P [] h = All-nil P
in_all P (x ∷ xs) h =
    All-cons P x xs (h x (in_head x xs)) (in_all P xs (λ y at. h y (in_tail x xs y at)))

pub there_at : {A : Type 0} (xs : List A) (n : ℕ) → n < length xs → (x : A) × (slice_get xs n ≡ Some x)
there_at [] n below = absurd (omega (arith, below))
there_at (x ∷ xs) zero below = (x, refl)
there_at (x ∷ xs) (suc n) below = there_at xs n (omega (arith, below))

pub read_some : {A : Type 0} (xs : List A) (n : ℕ) (d x : A) → n < length xs → get_or xs n d ≡ x → slice_get xs n ≡ Some x
read_some [] n d x below is = absurd (omega (arith, below))
read_some (y ∷ xs) zero d x below is = ap Some is
read_some (y ∷ xs) (suc n) d x below is = read_some xs n d x (omega (arith, below)) is

-- ---- order

pub order_append : (xs ys : List (ℕ × Gate)) → AreInOrder xs → AreInOrder ys → ((x y : ℕ × Gate) → In xs x → In ys y → IsBefore x y) → AreInOrder (xs ++ ys)
order_append [] ys first second between = second
order_append (x ∷ xs) ys first second between = (
  in_all (IsBefore x) (xs ++ ys) (λ y at. elim (in_cases xs ys y at) [
    | inl here ↦ all_in (IsBefore x) xs first.0 y here
    | inr there ↦ between x y (in_head x xs) there
  ]),
  order_append xs ys first.1 second (λ a b at under. between a b (in_tail x xs a at) under),
)

abbrev pub at_input : ℕ → Form → ℕ → ℕ × Gate
at_input p form c = (p, record { signal = form.signal.0; input = c; opens = form.opens_at })

above_all : (x : ℕ) (xs : List ℕ) → AllByRecursion (λ other. x < other) xs → (p : ℕ) (form : Form) → All (IsBefore (at_input p form x)) (map (at_input p form) xs)
above_all x [] above p form = All-nil (IsBefore (at_input p form x))
above_all x (y ∷ ys) above p form =
    All-cons (IsBefore (at_input p form x)) (at_input p form y) (map (at_input p form) ys) (inr (refl, above.0)) (above_all x ys above.1 p form)

pub order_inputs : (p : ℕ) (form : Form) (inputs : List ℕ) → AreRising inputs → AreInOrder (gates_at p form inputs)
order_inputs p form [] rising = tt
order_inputs p form (c ∷ cs) rising = (above_all c cs rising.0 p form, order_inputs p form cs rising.1)

-- ---- gates of one process

pub among_in : (xs : List ℕ) (k : ℕ) → Among xs k → In xs k
among_in [] k h = absurd h
among_in (x ∷ xs) k (inl here) = (0, ap Some (sym here))
among_in (x ∷ xs) k (inr later) = in_tail x xs k (among_in xs k later)

pub in_among : (xs : List ℕ) (k : ℕ) → In xs k → Among xs k
in_among [] k h = absurd (in_nothing k h)
in_among (x ∷ xs) k h = elim (in_split x xs k h) [
  | inl here ↦ inl (sym here)
  | inr later ↦ inr (in_among xs k later)
]

among_contains : (xs : List ℕ) (k : ℕ) → Among xs k → Contains xs k
among_contains xs k h =
    let (n, inside, is) = place_of xs k h in subst (Contains xs) is (Contains-get_or xs n 0 inside)

among_there : (xs : List ℕ) (n k : ℕ) → n < length xs → get_or xs n k ≡ k → Among xs k
among_there [] n k below e = absurd (omega (arith, below))
among_there (x ∷ xs) zero k below e = inl (sym e)
among_there (x ∷ xs) (suc n) k below e = inr (among_there xs n k (omega (arith, below)) e)

contains_among : (xs : List ℕ) (k : ℕ) → Contains xs k → Among xs k
contains_among xs k (n, below, e) = among_there xs n k below e

-- ---- numbers in order, each once

abbrev Rises : List ℕ → Type 0
Rises xs = (k : ℕ) → k + 1 < length xs → get_or xs k 0 < get_or xs (k + 1) 0

above_more : (x y : ℕ) (ys : List ℕ) → x < y → AllByRecursion (λ other. y < other) ys → AllByRecursion (λ other. x < other) ys
above_more x y [] less above = tt
above_more x y (z ∷ zs) less above =
    let next = above.0 in (omega (arith, less, next), above_more x y zs less above.1)

rises_later : (x : ℕ) (xs : List ℕ) → Rises (x ∷ xs) → Rises xs
rises_later x xs h k below =
    subst (λ n. get_or xs k 0 < get_or (x ∷ xs) n 0) (same k) (h (suc k) (omega (arith, below)))
  where
    same : (k : ℕ) → suc k + 1 ≡ suc (k + 1)
    same k = omega arith

rising_all : (xs : List ℕ) → Rises xs → AreRising xs
rising_all [] h = tt
rising_all (x ∷ []) h = (tt, tt)
rising_all (x ∷ y ∷ ys) h =
    let rest = rising_all (y ∷ ys) (rises_later x (y ∷ ys) h) in
    let less : x < y = h 0 (omega arith) in
    ((less, above_more x y ys less rest.0), rest)

pub rising_from : (xs : List ℕ) → IsStrictlyIncreasing xs → AreRising xs
rising_from xs h = rising_all xs h

pub rising_each : (all sorted : List ℕ) → IsPermutation all sorted → (k : ℕ) → Among (dedup eqb sorted) k ↔ Among all k
rising_each all sorted permuted k = (
  λ h. contains_among all k (Contains-permutation sorted all k (IsPermutation-sym all sorted permuted) (Contains-from_dedup eqb sorted k (among_contains (dedup eqb sorted) k h))),
  λ h. contains_among (dedup eqb sorted) k (Contains-dedup_nat sorted k (Contains-permutation all sorted k permuted (among_contains all k h))),
)

-- ---- latches of processes below a number

module _ (d : Flat) where
  pub latches_none : AreLatches d 0 []
  latches_none =
      record { each = λ p gate. (λ h. absurd (omega (arith, h.0)), λ h. absurd (in_nothing _ h)); in_order = tt }

  module _ (n : ℕ) (task : Task) (there : slice_get d.tasks n ≡ Some task) (old : List (ℕ × Gate)) (are : AreLatches d n old) where
    old_before : (q : ℕ) (gate : Gate) → HasGate old q gate → q < n
    old_before q gate h = ((are.each q gate).1 h).0

    pub latches_pass : IsFormOf d task.does None → AreLatches d (n + 1) old
    latches_pass none = record { each = λ p gate. (to p gate, from p gate); in_order = are.in_order }
      where
        to : (p : ℕ) (gate : Gate) → (p < n + 1) × IsGatedLatch d p gate → HasGate old p gate
        to p gate h = elim (cases_eq p n) [
          | inl same ↦ absurd (none-some _ ((none gate.signal gate.opens).1 (form_from d n task there gate (subst (λ q. IsGatedLatch d q gate) same h.1))))
          | inr other ↦ (are.each p gate).0 (omega (arith, h.0, other), h.1)
        ]

        from : (p : ℕ) (gate : Gate) → HasGate old p gate → (p < n + 1) × IsGatedLatch d p gate
        from p gate h = let (below, is) = (are.each p gate).1 h in (omega (arith, below), is)

    module _ (form : Form) (is : IsFormOf d task.does (Some form)) (tops : List ℕ) (come : (c : ℕ) → Among tops c ↔ ComesFrom d c form.signal.0) (new : List (ℕ × Gate)) (adds : AddsGates n form tops old new) where
      abbrev more : List (ℕ × Gate)
      more = gates_at n form adds.inputs

      latch_more : (gate : Gate) → IsGatedLatch d n gate → In more (n, gate)
      latch_more gate latch =
          let view : form_view form ≡ (gate.signal, gate.opens) = same_Some _ _ ((is gate.signal gate.opens).1 (form_from d n task there gate latch)) in
          let signal : form.signal.0 ≡ gate.signal = ap (λ (v : ℕ × Bit). v.0) view in
          let opens : form.opens_at ≡ gate.opens = ap (λ (v : ℕ × Bit). v.1) view in
          let comes = subst (ComesFrom d gate.input) (sym signal) latch.comes in
          let among = (adds.each gate.input).1 ((come gate.input).1 comes) in
          let same : at_input n form gate.input ≡ (n, gate) = λ k. (n, record { signal = signal k; input = gate.input; opens = opens k }) in
          subst (In more) same (in_map (at_input n form) adds.inputs gate.input (among_in adds.inputs gate.input among))

      more_latch : (q : ℕ) (gate : Gate) → In more (q, gate) → (q ≡ n) × IsGatedLatch d n gate
      more_latch q gate h =
          let (c, at, same) = map_in (at_input n form) adds.inputs (q, gate) h in
          let comes = (come c).0 ((adds.each c).0 (in_among adds.inputs c at)) in
          let made : Gate = record { signal = form.signal.0; input = c; opens = form.opens_at } in
          let latch : IsGatedLatch d n made = latch_from d n task there made ((is form.signal.0 form.opens_at).0 refl) comes in
          (sym (ap (λ (v : ℕ × Gate). v.0) same), subst (IsGatedLatch d n) (ap (λ (v : ℕ × Gate). v.1) same) latch)

      pub latches_next : AreLatches d (n + 1) new
      latches_next =
          subst (AreLatches d (n + 1)) (sym adds.added) (record {
            each = λ p gate. (to p gate, from p gate);
            in_order = order_append old more are.in_order (order_inputs n form adds.inputs adds.rising) (λ x y at under. between x y at under);
          })
        where
          between : (x y : ℕ × Gate) → In old x → In more y → IsBefore x y
          between x y at under =
              let below = old_before x.0 x.1 at in
              let same = (more_latch y.0 y.1 under).0 in
              inl (omega (arith, below, same))

          to : (p : ℕ) (gate : Gate) → (p < n + 1) × IsGatedLatch d p gate → HasGate (old ++ more) p gate
          to p gate h = elim (cases_eq p n) [
            | inl same ↦ in_right old more (p, gate) (subst (λ q. In more (q, gate)) (sym same) (latch_more gate (subst (λ q. IsGatedLatch d q gate) same h.1)))
            | inr other ↦ in_left old more (p, gate) ((are.each p gate).0 (omega (arith, h.0, other), h.1))
          ]

          from : (p : ℕ) (gate : Gate) → HasGate (old ++ more) p gate → (p < n + 1) × IsGatedLatch d p gate
          from p gate h = elim (in_cases old more (p, gate) h) [
            | inl before ↦ let (below, latch) = (are.each p gate).1 before in (omega (arith, below), latch)
            | inr now ↦ let (same, latch) = more_latch p gate now in (omega (arith, same), subst (λ q. IsGatedLatch d q gate) (sym same) latch)
          ]

-- ---- those that are kept

filter_in : {A : Type 0} (f : A → Option A) → ((x y : A) → f x ≡ Some y → x ≡ y) → (xs : List A) (x : A) → In (filter_map f xs) x → In xs x × (f x ≡ Some x)
filter_in {A} f same [] x h = absurd (in_nothing x h)
filter_in {A} f same (z ∷ xs) x h = by (f z) refl (filter_in f same xs x) h
  where
    by : (o : Option A) → f z ≡ o → (In (filter_map f xs) x → In xs x × (f x ≡ Some x)) → In (cons_option o (filter_map f xs)) x → In (z ∷ xs) x × (f x ≡ Some x)
    by None e rest h = let (at, is) = rest h in (in_tail z xs x at, is)
    by (Some y) e rest h = elim (in_split y (filter_map f xs) x h) [
      | inl here ↦
          let its : z ≡ x = same z y e ∙ here in
          ((0, ap Some its), subst (λ (v : A). f v ≡ Some x) its (e ∙ ap Some here))
      | inr later ↦ let (at, is) = rest later in (in_tail z xs x at, is)
    ]

in_filter : {A : Type 0} (f : A → Option A) (xs : List A) (x : A) → In xs x → f x ≡ Some x → In (filter_map f xs) x
in_filter {A} f [] x h is = absurd (in_nothing x h)
in_filter {A} f (z ∷ xs) x h is = elim (in_split z xs x h) [
  | inl here ↦ subst (λ (o : Option A). In (cons_option o (filter_map f xs)) x) (sym (ap f here ∙ is)) (in_head x (filter_map f xs))
  | inr later ↦ past (f z) (in_filter f xs x later is)
]
  where
    past : (o : Option A) → In (filter_map f xs) x → In (cons_option o (filter_map f xs)) x
    past None at = at
    past (Some y) at = in_tail y (filter_map f xs) x at

kept_same : (inputs : Inputs) (x y : declared.Gate) → kept inputs x ≡ Some y → x ≡ y
kept_same inputs x y h = by (admits inputs x) h
  where
    by : (b : Bool) → cond b (Some x) None ≡ Some y → x ≡ y
    by true e = same_Some x y e
    by false e = absurd (none-some _ e)

kept_is : (inputs : Inputs) (x : declared.Gate) → kept inputs x ≡ Some x → admits inputs x ≡ true
kept_is inputs x h = by (admits inputs x) refl h
  where
    by : (b : Bool) → admits inputs x ≡ b → cond b (Some x) None ≡ Some x → admits inputs x ≡ true
    by true is e = is
    by false is e = absurd (none-some _ e)

pub order_kept : (f : declared.Gate → Option declared.Gate) → ((x y : declared.Gate) → f x ≡ Some y → x ≡ y) → (xs : List declared.Gate) → AreInOrder (gates_of xs) → AreInOrder (gates_of (filter_map f xs))
order_kept f same [] order = tt
order_kept f same (x ∷ xs) order = by (f x) refl (order_kept f same xs order.1)
  where
    by : (o : Option declared.Gate) → f x ≡ o → AreInOrder (gates_of (filter_map f xs)) → AreInOrder (gates_of (cons_option o (filter_map f xs)))
    by None e rest = rest
    by (Some y) e rest = subst (λ (v : declared.Gate). AreInOrder (gates_of (v ∷ filter_map f xs))) (same x y e) (
      in_all (IsBefore (gate_of x)) (gates_of (filter_map f xs)) (λ g at.
          let (z, its, is) = map_in gate_of (filter_map f xs) g at in
          all_in (IsBefore (gate_of x)) (gates_of xs) order.0 g (subst (In (gates_of xs)) is (in_map gate_of xs z (filter_in f same xs z its).0))),
      rest,
    )

-- ---- the admitted

-- a gate is open at 1 or at 0
abbrev IsKnown : Bit → Type 0
IsKnown opens = (opens ≡ bit.One) ⊎ (opens ≡ bit.Zero)

compared_known : (g : ℕ) (bits : List Bit) (signal : ℕ) (opens : Bit) → gate_compared g bits ≡ Some (signal, opens) → IsKnown opens
compared_known g (bit.One ∷ []) signal opens h = inl (sym (ap (λ (v : ℕ × Bit). v.1) (same_Some _ _ h)))
compared_known g (bit.Zero ∷ []) signal opens h = inr (sym (ap (λ (v : ℕ × Bit). v.1) (same_Some _ _ h)))
compared_known g _ signal opens h = absurd (none-some _ h)

abbrev zero_if : Bool → ℕ → Option (ℕ × Bit)
zero_if b g = if b then Some (g, bit.Zero) else None

if_known : (b : Bool) (g signal : ℕ) (opens : Bit) → zero_if b g ≡ Some (signal, opens) → IsKnown opens
if_known true g signal opens h = inr (sym (ap (λ (v : ℕ × Bit). v.1) (same_Some _ _ h)))
if_known false g signal opens h = absurd (none-some _ h)

opens_known : (test : Tree) (signal : ℕ) (opens : Bit) → gate_test test ≡ Some (signal, opens) → IsKnown opens
opens_known (Sized w s at (Whole g)) signal opens h =
    inl (sym (ap (λ (v : ℕ × Bit). v.1) (same_Some _ _ h)))
opens_known (Sized w s at (Folded fold.Negation (Sized w' s' at' (Whole g)))) signal opens h =
    inr (sym (ap (λ (v : ℕ × Bit). v.1) (same_Some _ _ h)))
opens_known (Sized w s at (Turned turn.Complement (Sized w' s' at' (Whole g)))) signal opens h =
    if_known (w' == 1) g signal opens h
opens_known (Sized w s at (Compared compare.Equal t (Sized w' s' at' (Whole g)) (Sized w'' s'' at'' (Literal bits)))) signal opens h =
    compared_known g bits signal opens h
opens_known _ signal opens h = absurd (none-some _ h)

latch_known : (d : Flat) (p : ℕ) (gate : Gate) → IsGatedLatch d p gate → IsKnown gate.opens
latch_known d p gate latch = opens_known latch.test gate.signal gate.opens latch.tests

true_or : (b : Bool) → (b ≡ true → ⊥) → not b ≡ true
true_or true h = absurd (h refl)
true_or false h = refl

not_true : (b : Bool) → not b ≡ true → b ≡ true → ⊥
not_true true h is = false≢true h
not_true false h is = false≢true is

zero_one : bit.Zero ≡ bit.One → ⊥
zero_one e = false≢true (ap (λ b. same_bit b bit.One) e)

module _ (d : Flat) (gates : List declared.Gate) (are : AreLatches d (length d.tasks) (gates_of gates)) where
  task_below : (p : ℕ) (gate : Gate) → IsGatedLatch d p gate → p < length d.tasks
  task_below p gate latch = by (slice_get d.tasks p) refl latch.does
    where
      by : (o : Option Task) → slice_get d.tasks p ≡ o → doing_of o ≡ Some (Comb latch.list latch.body) → p < length d.tasks
      by None e h = absurd (none-some _ h)
      by (Some task) e h = slice_get_within d.tasks p task e

  latch_in : (p : ℕ) (gate : Gate) → IsGatedLatch d p gate → HasGate (gates_of gates) p gate
  latch_in p gate latch = (are.each p gate).0 (task_below p gate latch, latch)

  in_latch : (x : declared.Gate) → In gates x → IsGatedLatch d x.process.0 (gate_of x).1
  in_latch x at = ((are.each x.process.0 (gate_of x).1).1 (in_map gate_of gates x at)).1

  input_inside : (p : ℕ) (gate : Gate) → IsGatedLatch d p gate → gate.input < length d.signals
  input_inside p gate latch =
      input_below d.signals gate.input (from_input d gate.input gate.signal latch.comes)

  module _ (inputs : Inputs) (made : AreInputs d (gates_of gates) inputs) where
    -- some latch of its input is open at the other value
    opposed : (b : Bit) (c : ℕ) → IsKnown b → is_opposed inputs b c ≡ true → (p : ℕ) × (gate : Gate) × HasGate (gates_of gates) p gate × (gate.input ≡ c) × (gate.opens ≡ b → ⊥)
    opposed bit.One c known h =
        let (p, gate, at, input, opens) = ((made.low c).0 h).1 in (p, gate, at, input, λ e. zero_one (sym opens ∙ e))
    opposed bit.Zero c known h =
        let (p, gate, at, input, opens) = ((made.high c).0 h).1 in (p, gate, at, input, λ e. zero_one (sym e ∙ opens))
    opposed bit.X c (inl e) h = absurd (x_one e)
      where
        x_one : bit.X ≡ bit.One → ⊥
        x_one e = false≢true (ap (λ b. same_bit b bit.One) e)
    opposed bit.X c (inr e) h = absurd (x_zero e)
      where
        x_zero : bit.X ≡ bit.Zero → ⊥
        x_zero e = false≢true (ap (λ b. same_bit b bit.Zero) e)
    opposed bit.Z c (inl e) h = absurd (z_one e)
      where
        z_one : bit.Z ≡ bit.One → ⊥
        z_one e = false≢true (ap (λ b. same_bit b bit.One) e)
    opposed bit.Z c (inr e) h = absurd (z_zero e)
      where
        z_zero : bit.Z ≡ bit.Zero → ⊥
        z_zero e = false≢true (ap (λ b. same_bit b bit.Zero) e)

    is_alike : (b o : Bit) (c : ℕ) → IsKnown b → IsKnown o → not (is_opposed inputs b c) ≡ true → (q : ℕ) (other : Gate) → HasGate (gates_of gates) q other → other.input ≡ c → c < length d.signals → other.opens ≡ o → o ≡ b
    is_alike b o c (inl e) (inl e') h q other at input below opens = e' ∙ sym e
    is_alike b o c (inr e) (inr e') h q other at input below opens = e' ∙ sym e
    is_alike b o c (inl e) (inr e') h q other at input below opens =
        absurd (not_true (is_opposed inputs bit.One c) (subst (λ v. not (is_opposed inputs v c) ≡ true) e h) ((made.low c).1 (below, (q, other, at, input, opens ∙ e'))))
    is_alike b o c (inr e) (inl e') h q other at input below opens =
        absurd (not_true (is_opposed inputs bit.Zero c) (subst (λ v. not (is_opposed inputs v c) ≡ true) e h) ((made.high c).1 (below, (q, other, at, input, opens ∙ e'))))

    admitted_to : (x : declared.Gate) → In gates x → admits inputs x ≡ true → IsAdmitted d x.process.0 (gate_of x).1
    admitted_to x at h =
        let c = x.input.0 in
        let latch = in_latch x at in
        let (free, alone) = and_parts (not (get_or inputs.clocks.items c false)) (not (is_opposed inputs x.opens_at c)) h in
        record {
          latch = latch;
          no_clock = λ clock. not_true (get_or inputs.clocks.items c false) free ((made.clocks c).1 clock);
          alike = λ q other is same. is_alike x.opens_at other.opens c (latch_known d x.process.0 (gate_of x).1 latch) (latch_known d q other is) alone q other (latch_in q other is) same (input_inside x.process.0 (gate_of x).1 latch) refl;
        }

    admitted_from : (x : declared.Gate) → IsAdmitted d x.process.0 (gate_of x).1 → admits inputs x ≡ true
    admitted_from x is =
        let c = x.input.0 in
        and_from (not (get_or inputs.clocks.items c false)) (not (is_opposed inputs x.opens_at c))
        (true_or (get_or inputs.clocks.items c false) (λ h. is.no_clock ((made.clocks c).0 h)))
        (true_or (is_opposed inputs x.opens_at c) (λ h.
        let (p, gate, at, input, other) = opposed x.opens_at c (latch_known d x.process.0 (gate_of x).1 is.latch) h in
        other (is.alike p gate ((are.each p gate).1 at).1 input)))

    abbrev Admits : ℕ × Gate → Type 0
    Admits v = IsAdmitted d v.0 v.1

    pub admitted_all : (found : List declared.Gate) → found ≡ filter_map (kept inputs) gates → AreGates d (gates_of found)
    admitted_all found all =
        subst (λ (l : List declared.Gate). AreGates d (gates_of l)) (sym all) (record {
          each = λ p gate. (to p gate, from p gate);
          in_order = order_kept (kept inputs) (kept_same inputs) gates are.in_order;
        })
      where
        to : (p : ℕ) (gate : Gate) → IsAdmitted d p gate → HasGate (gates_of (filter_map (kept inputs) gates)) p gate
        to p gate is =
            let (x, at, same) = map_in gate_of gates (p, gate) (latch_in p gate is.latch) in
            let passes = admitted_from x (subst Admits (sym same) is) in
            let stays : kept inputs x ≡ Some x = ap (λ b. cond b (Some x) None) passes in
            subst (In (gates_of (filter_map (kept inputs) gates))) same (in_map gate_of (filter_map (kept inputs) gates) x (in_filter (kept inputs) gates x at stays))

        from : (p : ℕ) (gate : Gate) → HasGate (gates_of (filter_map (kept inputs) gates)) p gate → IsAdmitted d p gate
        from p gate h =
            let (x, at, same) = map_in gate_of (filter_map (kept inputs) gates) (p, gate) h in
            let (was, stays) = filter_in (kept inputs) (kept_same inputs) gates x at in
            subst Admits same (admitted_to x was (kept_is inputs x stays))

-- ---- a design without the form

none_some : (forms : List (Option Form)) (p : ℕ) (form : Form) → list_any is_some forms ≡ false → slice_get forms p ≡ Some (Some form) → ⊥
none_some [] p form none h = none-some _ h
none_some (one ∷ forms) zero form none h =
    both_ways (list_any is_some (one ∷ forms)) none (or_left (is_some one) (list_any is_some forms) (ap is_some (same_Some one (Some form) h)))
none_some (one ∷ forms) (suc p) form none h =
    none_some forms p form (later (is_some one) (list_any is_some forms) none) h
  where
    later : (a b : Bool) → (a || b) ≡ false → b ≡ false
    later true b e = absurd (false≢true (sym e))
    later false b e = e

pub no_gates : (d : Flat) (forms : List (Option Form)) → AreForms d (length d.tasks) forms → list_any is_some forms ≡ false → AreGates d []
no_gates d forms are none =
    record { each = λ p gate. (λ is. absurd (no p gate is.latch), λ h. absurd (in_nothing _ h)); in_order = tt }
  where
    no : (p : ℕ) (gate : Gate) → IsGatedLatch d p gate → ⊥
    no p gate latch = by_task (slice_get d.tasks p) refl latch.does
      where
        by_form : (task : Task) → slice_get d.tasks p ≡ Some task → (o : Option (Option Form)) → slice_get forms p ≡ o → p < length forms → ⊥
        by_form task there None e below = absurd (none-some _ (sym e ∙ (there_at forms p below).1))
        by_form task there (Some form) e below =
            let is = subst (λ o. IsSomeAnd o (λ task. IsFormOf d task.does form)) there (are.each p form e) in
            some_form form e ((is gate.signal gate.opens).1 (form_from d p task there gate latch))
          where
            some_form : (form : Option Form) → slice_get forms p ≡ Some form → option_map form_view form ≡ Some (gate.signal, gate.opens) → ⊥
            some_form None e h = none-some _ h
            some_form (Some one) e h = none_some forms p one none e

        by_task : (o : Option Task) → slice_get d.tasks p ≡ o → doing_of o ≡ Some (Comb latch.list latch.body) → ⊥
        by_task None e h = none-some _ h
        by_task (Some task) e h =
            let below = slice_get_within d.tasks p task e in
            let size = are.size in
            by_form task e (slice_get forms p) refl (omega (arith, below, size))
