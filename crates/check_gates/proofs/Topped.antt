-- The top inputs that signals come from, and marks of numbers.
use Rattle.std.proofs.Common.{◌≡◌, ◌∙◌, ℕ, zero, suc, ◌+◌, ◌<◌, ◌≤◌, Bool, true, false, List, [], ◌∷◌, ◌++◌, length, get_or, set, Option, None, Some, refl, sym, ap, subst, inl, inr, arith}
use Rattle.std.specs.Prelude.{◌⊎◌, ◌↔◌, Vec}
use Rattle.std.specs.List.{All, slice_get}
use Rattle.std.specs.Option.{IsSomeAnd}
use Rattle.std.specs.declared.alloc.Global.{Global}
use Rattle.std.proofs.lemmas.Bool.{both_ways, cases_eq, false≢true}
use Rattle.std.proofs.lemmas.List.{get_or-set_same, get_or-set_other, length-set}
use Rattle.std.proofs.lemmas.List.Elements.{All-cons, All-nil}
use Rattle.rtl_flat.specs.declared.signal.Kind.{Kind}
use Rattle.rtl_flat.specs.declared.signal.Kind.TheVariants.{TopInput, Net, Var}
use Rattle.rtl_flat.specs.declared.signal.Signal.{Signal}
use Rattle.rtl_flat.specs.Signs.{Has}
use Rattle.rtl_flat.specs.Flats.{Flat}
use Rattle.check_chains.specs.rtl_scan.Arrows.{Among}
use Rattle.check_chains.specs.rtl_scan.Graph.{row}
use Rattle.net_model.specs.Gates.{ComesFrom, GoesTo}
use Rattle.check_gates.specs.Links.{AreRows, IsPut}
use Rattle.check_gates.specs.Reach.{Here, Onward, Reaches}
use Rattle.event_model.specs.Queue.{is_input_kind, is_input_of}
use Rattle.check_gates.specs.Tops.{AreMarkedAlso, AreTops, IsNoted, IsNotedFor}
use Rattle.check_gates.proofs.Linked.{ArePlain, goes_from, reaches_from}
use Rattle.check_gates.proofs.Reached.{among_cases, among_left, among_right}

-- ---- one top input

pub reaches_below : (rows : List (Vec ℕ Global)) (start k : ℕ) → start < length rows → Reaches rows start k → k < length rows
reaches_below rows start k inside Here = inside
reaches_below rows start k inside (Onward i j from among below) = below

pub noted_none : (top : ℕ) (rows : List (Vec ℕ Global)) → IsNotedFor [] top rows rows
noted_none top rows =
    record { size = refl; each = λ i t. (λ h. inl h, from i t) }
  where
    from : (i t : ℕ) → Among (row rows i) t ⊎ ((t ≡ top) × ⊥) → Among (row rows i) t
    from i t (inl h) = h
    from i t (inr h) = absurd h.1

pub noted_more : (signals : List ℕ) (signal top : ℕ) (old mid new : List (Vec ℕ Global)) → IsNotedFor signals top old mid → IsPut signal top mid new → IsNotedFor (signals ++ signal ∷ []) top old new
noted_more signals signal top old mid new before put =
    record { size = put.size ∙ before.size; each = λ i t. (λ h. to i t ((put.each i t).0 h), λ h. (put.each i t).1 (from i t h)) }
  where
    kept : (i t : ℕ) → Among (row old i) t ⊎ ((t ≡ top) × Among signals i) → Among (row old i) t ⊎ ((t ≡ top) × Among (signals ++ signal ∷ []) i)
    kept i t (inl h) = inl h
    kept i t (inr h) = inr (h.0, among_left signals (signal ∷ []) i h.1)

    to : (i t : ℕ) → Among (row mid i) t ⊎ ((i ≡ signal) × (t ≡ top)) → Among (row old i) t ⊎ ((t ≡ top) × Among (signals ++ signal ∷ []) i)
    to i t (inl h) = kept i t ((before.each i t).0 h)
    to i t (inr h) = inr (h.1, among_right signals (signal ∷ []) i (inl h.0))

    last : (i : ℕ) → Among (signal ∷ []) i → i ≡ signal
    last i (inl same) = same
    last i (inr none) = absurd none

    from : (i t : ℕ) → Among (row old i) t ⊎ ((t ≡ top) × Among (signals ++ signal ∷ []) i) → Among (row mid i) t ⊎ ((i ≡ signal) × (t ≡ top))
    from i t (inl h) = inl ((before.each i t).1 (inl h))
    from i t (inr h) = elim (among_cases signals (signal ∷ []) i h.1) [
      | inl here ↦ inl ((before.each i t).1 (inr (h.0, here)))
      | inr now ↦ inr (last i now, h.0)
    ]

pub noted_all : (rows : List (Vec ℕ Global)) (found : List ℕ) (top : ℕ) (old new : List (Vec ℕ Global)) → ((k : ℕ) → Among found k ↔ Reaches rows top k) → IsNotedFor found top old new → IsNoted rows top old new
noted_all rows found top old new is noted =
    record { size = noted.size; each = λ i t. (λ h. to i t ((noted.each i t).0 h), λ h. (noted.each i t).1 (from i t h)) }
  where
    to : (i t : ℕ) → Among (row old i) t ⊎ ((t ≡ top) × Among found i) → Among (row old i) t ⊎ ((t ≡ top) × Reaches rows top i)
    to i t (inl h) = inl h
    to i t (inr h) = inr (h.0, (is i).0 h.1)

    from : (i t : ℕ) → Among (row old i) t ⊎ ((t ≡ top) × Reaches rows top i) → Among (row old i) t ⊎ ((t ≡ top) × Among found i)
    from i t (inl h) = inl h
    from i t (inr h) = inr (h.0, (is i).1 h.1)

-- ---- all top inputs

top_is : (o : Option Signal) → is_input_of o ≡ true → IsSomeAnd o (λ signal. signal.kind ≡ TopInput)
top_is None h = absurd (false≢true h)
top_is (Some signal) h = by_kind signal.kind h
  where
    by_kind : (kind : Kind) → is_input_kind kind ≡ true → kind ≡ TopInput
    by_kind TopInput h = refl
    by_kind Net h = absurd (false≢true h)
    by_kind Var h = absurd (false≢true h)

is_top_from : (o : Option Signal) → IsSomeAnd o (λ signal. signal.kind ≡ TopInput) → is_input_of o ≡ true
is_top_from None h = absurd h
is_top_from (Some signal) h = ap is_input_kind h

pub tops_none : (d : Flat) (rows : List (Vec ℕ Global)) → AreRows (length d.signals) [] rows → AreTops d 0 rows
tops_none d rows are =
    record { size = are.size; each = λ i t. (λ h. absurd ((are.each i t).0 h).1, λ h. absurd (omega (arith, h.0))) }

module _ (d : Flat) (rows : List (Vec ℕ Global)) (plain : ArePlain d rows) (n : ℕ) where
  pub tops_next : (old new : List (Vec ℕ Global)) → AreTops d n old → is_input_of (slice_get d.signals n) ≡ true → IsNoted rows n old new → AreTops d (n + 1) new
  tops_next old new are top noted =
      record { size = noted.size ∙ are.size; each = λ i t. (λ h. to i t ((noted.each i t).0 h), λ h. (noted.each i t).1 (from i t h)) }
    where
      to : (i t : ℕ) → Among (row old i) t ⊎ ((t ≡ n) × Reaches rows n i) → (t < n + 1) × ComesFrom d t i
      to i t (inl h) = let is = (are.each i t).0 h in (omega (arith, is.0), is.1)
      to i t (inr h) = (
        omega (arith, h.0),
        subst (λ m. ComesFrom d m i) (sym h.0) (record { input = top_is (slice_get d.signals n) top; goes = goes_from d rows n i plain h.1 }),
      )

      from : (i t : ℕ) → (t < n + 1) × ComesFrom d t i → Among (row old i) t ⊎ ((t ≡ n) × Reaches rows n i)
      from i t h = elim (cases_eq t n) [
        | inl same ↦ inr (same, reaches_from d rows n i plain (subst (λ m. GoesTo d m i) same h.1.goes))
        | inr other ↦ inl ((are.each i t).1 (omega (arith, h.0, other), h.1))
      ]

  pub tops_pass : (old : List (Vec ℕ Global)) → AreTops d n old → is_input_of (slice_get d.signals n) ≡ false → AreTops d (n + 1) old
  tops_pass old are no_top =
      record { size = are.size; each = λ i t. (λ h. let is = (are.each i t).0 h in (omega (arith, is.0), is.1), from i t) }
    where
      from : (i t : ℕ) → (t < n + 1) × ComesFrom d t i → Among (row old i) t
      from i t h = elim (cases_eq t n) [
        | inl same ↦ absurd (both_ways (is_input_of (slice_get d.signals n)) no_top (is_top_from (slice_get d.signals n) (subst (λ m. Has (λ signal. signal.kind ≡ TopInput) d.signals m) same h.1.input)))
        | inr other ↦ (are.each i t).1 (omega (arith, h.0, other), h.1)
      ]

-- ---- marks

pub marked_one : (place : ℕ) (marks : List Bool) → place < length marks → AreMarkedAlso (place ∷ []) marks (set marks place true)
marked_one place marks inside =
    record { size = length-set marks place true; each = λ k. (to k, from k) }
  where
    to : (k : ℕ) → get_or (set marks place true) k false ≡ true → (get_or marks k false ≡ true) ⊎ ((k < length marks) × Among (place ∷ []) k)
    to k h = elim (cases_eq k place) [
      | inl same ↦ inr (omega (arith, same, inside), inl same)
      | inr other ↦ inl (sym (get_or-set_other marks place k true false other) ∙ h)
    ]

    here : (k : ℕ) → k ≡ place → get_or (set marks place true) k false ≡ true
    here k same = ap (λ n. get_or (set marks place true) n false) same ∙ get_or-set_same marks place true false inside

    last : (k : ℕ) → Among (place ∷ []) k → k ≡ place
    last k (inl same) = same
    last k (inr none) = absurd none

    from : (k : ℕ) → (get_or marks k false ≡ true) ⊎ ((k < length marks) × Among (place ∷ []) k) → get_or (set marks place true) k false ≡ true
    from k (inl h) = elim (cases_eq k place) [
      | inl same ↦ here k same
      | inr other ↦ get_or-set_other marks place k true false other ∙ h
    ]
    from k (inr h) = here k (last k h.1)

pub marked_past : (place : ℕ) (marks : List Bool) → length marks ≤ place → AreMarkedAlso (place ∷ []) marks marks
marked_past place marks past = record { size = refl; each = λ k. (λ h. inl h, from k) }
  where
    last : (k : ℕ) → Among (place ∷ []) k → k ≡ place
    last k (inl same) = same
    last k (inr none) = absurd none

    from : (k : ℕ) → (get_or marks k false ≡ true) ⊎ ((k < length marks) × Among (place ∷ []) k) → get_or marks k false ≡ true
    from k (inl h) = h
    from k (inr h) = let same = last k h.1 in absurd (omega (arith, h.0, past, same))

pub marked_none : (marks : List Bool) → AreMarkedAlso [] marks marks
marked_none marks = record { size = refl; each = λ k. (λ h. inl h, from k) }
  where
    from : (k : ℕ) → (get_or marks k false ≡ true) ⊎ ((k < length marks) × ⊥) → get_or marks k false ≡ true
    from k (inl h) = h
    from k (inr h) = absurd h.1

pub marked_more : (xs ys : List ℕ) (old mid new : List Bool) → AreMarkedAlso xs old mid → AreMarkedAlso ys mid new → AreMarkedAlso (xs ++ ys) old new
marked_more xs ys old mid new first second =
    record { size = second.size ∙ first.size; each = λ k. (λ h. to k ((second.each k).0 h), λ h. (second.each k).1 (from k h)) }
  where
    kept : (k : ℕ) → (get_or old k false ≡ true) ⊎ ((k < length old) × Among xs k) → (get_or old k false ≡ true) ⊎ ((k < length old) × Among (xs ++ ys) k)
    kept k (inl h) = inl h
    kept k (inr h) = inr (h.0, among_left xs ys k h.1)

    to : (k : ℕ) → (get_or mid k false ≡ true) ⊎ ((k < length mid) × Among ys k) → (get_or old k false ≡ true) ⊎ ((k < length old) × Among (xs ++ ys) k)
    to k (inl h) = kept k ((first.each k).0 h)
    to k (inr h) = inr (subst (λ n. k < n) first.size h.0, among_right xs ys k h.1)

    from : (k : ℕ) → (get_or old k false ≡ true) ⊎ ((k < length old) × Among (xs ++ ys) k) → (get_or mid k false ≡ true) ⊎ ((k < length mid) × Among ys k)
    from k (inl h) = inl ((first.each k).1 (inl h))
    from k (inr h) = elim (among_cases xs ys k h.1) [
      | inl here ↦ inl ((first.each k).1 (inr (h.0, here)))
      | inr there ↦ inr (subst (λ n. k < n) (sym first.size) h.0, there)
    ]

-- ---- rows that are read

pub row_past : (rows : List (Vec ℕ Global)) (q : ℕ) → length rows ≤ q → [] ≡ row rows q
row_past [] q past = refl
row_past (x ∷ rows) zero past = absurd (omega (arith, past))
row_past (x ∷ rows) (suc q) past = row_past rows q (omega (arith, past))

-- what was found lies inside
pub found_inside : (rows : List (Vec ℕ Global)) (top size : ℕ) (found : List ℕ) → ((k : ℕ) → Among found k ↔ Reaches rows top k) → top < length rows → size ≡ length rows → All (λ place. place < size) found
found_inside rows top size found is inside same = all found (λ k among. subst (λ n. k < n) (sym same) (reaches_below rows top k inside ((is k).0 among)))
  where
    all : (xs : List ℕ) → ((k : ℕ) → Among xs k → k < size) → All (λ place. place < size) xs
    all [] h = All-nil (λ place. place < size)
    all (x ∷ xs) h = All-cons (λ place. place < size) x xs (h x (inl refl)) (all xs (λ k among. h k (inr among)))

-- ---- rows

module _ (d : Flat) (tops : List (Vec ℕ Global)) (are : AreTops d (length d.signals) tops) where
  pub top_below : (t i : ℕ) → ComesFrom d t i → t < length d.signals
  top_below t i comes = there d.signals t comes.input
    where
      there : (signals : List Signal) (t : ℕ) → Has (λ signal. signal.kind ≡ TopInput) signals t → t < length signals
      there [] t h = absurd h
      there (s ∷ signals) zero h = omega arith
      there (s ∷ signals) (suc t) h = let below = there signals t h in omega (arith, below)

  pub comes_from : (i t : ℕ) → Among (row tops i) t ↔ ComesFrom d t i
  comes_from i t = (λ h. ((are.each i t).0 h).1, λ h. (are.each i t).1 (top_below t i h, h))
