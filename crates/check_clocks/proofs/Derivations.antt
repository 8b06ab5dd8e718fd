-- The test of an edge's signal says what the rule does.
use Rattle.std.proofs.Common.{◌≡◌, ℕ, zero, suc, ◌<◌, ◌≤◌, ◌==◌, ◌||◌, Bool, true, false, cond, List, [], ◌∷◌, ◌++◌, length, Option, None, Some, refl, ap, subst, inl, inr, arith}
use Rattle.std.specs.Prelude.{◌⊎◌, ◌↔◌, ◌≢◌, Vec, count_by, slice_index_or}
use Rattle.std.specs.List.{filter_map, list_any, slice_get}
use Rattle.std.specs.Option.{IsSomeAnd}
use Rattle.std.specs.declared.alloc.Global.{Global}
use Rattle.std.proofs.lemmas.Bool.{and_from, and_parts, cases_Bool, eq-eqb, eqb-true, false≢true, le-leb, leb-true, or_cases, or_left, or_right}
use Rattle.std.proofs.lemmas.List.Sums.{sum_by-cons}
use Rattle.rtl_flat.specs.Process.{Watched, Task}
use Rattle.rtl_rule.specs.declared.finding.Finding.{Finding}
use Rattle.rtl_rule.specs.Parts.{At, items_of, within}
use Rattle.rtl_flat.specs.Flats.{Flat}
use Rattle.check_gates.specs.check_chains.rtl_scan.Arrows.{Among}
use Rattle.check_gates.specs.check_chains.rtl_scan.Graph.{row}
use Rattle.check_gates.specs.check_chains.check_found.Gathered.{Gets, task_sites}
use Rattle.check_gates.proofs.check_chains_proofs.check_found_proofs.Gathering.{findings_by_option, map_findings}
use Rattle.check_clocks.specs.Clocks.{HasTwoRoles, IsDerivedClock, IsTwice, derived_clock_at, events_of}
use Rattle.net_model.specs.Gates.{ComesFrom}
use Rattle.check_clocks.specs.Roles.{AreRoles, derived_in, has_both, has_top, is_derived, is_none, is_twice}
use Rattle.check_gates.specs.Tops.{AreTops}
use Rattle.check_gates.proofs.Topped.{comes_from}

-- ---- lists

any_among : (f : ℕ → Bool) (xs : List ℕ) → list_any f xs ≡ true → (x : ℕ) × Among xs x × (f x ≡ true)
any_among f [] h = absurd (false≢true h)
any_among f (x ∷ xs) h = elim (or_cases (f x) (list_any f xs) h) [
  | inl here ↦ (x, inl refl, here)
  | inr later ↦ let (y, among, is) = any_among f xs later in (y, inr among, is)
]

any_from : (f : ℕ → Bool) (xs : List ℕ) (x : ℕ) → Among xs x → f x ≡ true → list_any f xs ≡ true
any_from f [] x h is = absurd h
any_from f (y ∷ xs) x (inl same) is = or_left (f y) (list_any f xs) (subst (λ z. f z ≡ true) same is)
any_from f (y ∷ xs) x (inr later) is = or_right (f y) (list_any f xs) (any_from f xs x later is)

none_among : (xs : List ℕ) → is_none xs ≡ true → (x : ℕ) → Among xs x → ⊥
none_among [] h x among = among
none_among (y ∷ xs) h x among = absurd (false≢true h)

none_from : (xs : List ℕ) → ((x : ℕ) → Among xs x → ⊥) → is_none xs ≡ true
none_from [] h = refl
none_from (y ∷ xs) h = absurd (h y (inl refl))

-- ---- elements that pass a test, counted

module _ {X : Type 0} (g : X → Bool) where
  one_place : (xs : List X) → 1 ≤ count_by g xs → (k : ℕ) × IsSomeAnd (slice_get xs k) (λ x. g x ≡ true)
  one_place [] h = absurd (omega (arith, h))
  one_place (x ∷ xs) h = by_test (one_place xs) (cases_Bool (g x))
    where
      by_test : (1 ≤ count_by g xs → (k : ℕ) × IsSomeAnd (slice_get xs k) (λ x. g x ≡ true)) → (g x ≡ true) ⊎ (g x ≡ false) → (k : ℕ) × IsSomeAnd (slice_get (x ∷ xs) k) (λ x. g x ≡ true)
      by_test go (inl here) = (0, here)
      by_test go (inr other) =
          let whole = sum_by-cons (λ y. cond (g y) 1 0) x xs in
          let none = ap {B = ℕ} (λ b. cond b 1 0) other in
          let (k, is) = go (omega (arith, whole, none, h)) in (suc k, is)

  two_places : (xs : List X) → 2 ≤ count_by g xs → (m n : ℕ) × (m ≢ n) × IsSomeAnd (slice_get xs m) (λ x. g x ≡ true) × IsSomeAnd (slice_get xs n) (λ x. g x ≡ true)
  two_places [] h = absurd (omega (arith, h))
  two_places (x ∷ xs) h = by_test (two_places xs) (cases_Bool (g x))
    where
      by_test : (2 ≤ count_by g xs → (m n : ℕ) × (m ≢ n) × IsSomeAnd (slice_get xs m) (λ x. g x ≡ true) × IsSomeAnd (slice_get xs n) (λ x. g x ≡ true)) → (g x ≡ true) ⊎ (g x ≡ false) → (m n : ℕ) × (m ≢ n) × IsSomeAnd (slice_get (x ∷ xs) m) (λ x. g x ≡ true) × IsSomeAnd (slice_get (x ∷ xs) n) (λ x. g x ≡ true)
      by_test go (inl here) =
          let whole = sum_by-cons (λ y. cond (g y) 1 0) x xs in
          let one = ap {B = ℕ} (λ b. cond b 1 0) here in
          let (k, is) = one_place xs (omega (arith, whole, one, h)) in (0, suc k, λ same. absurd (omega (arith, same)), here, is)
      by_test go (inr other) =
          let whole = sum_by-cons (λ y. cond (g y) 1 0) x xs in
          let none = ap {B = ℕ} (λ b. cond b 1 0) other in
          let (m, n, apart, first, second) = go (omega (arith, whole, none, h)) in
          (suc m, suc n, λ same. apart (omega (arith, same)), first, second)

  count_one : (xs : List X) (k : ℕ) → IsSomeAnd (slice_get xs k) (λ x. g x ≡ true) → 1 ≤ count_by g xs
  count_one [] k h = absurd h
  count_one (x ∷ xs) zero h =
      let whole = sum_by-cons (λ y. cond (g y) 1 0) x xs in
      let one = ap {B = ℕ} (λ b. cond b 1 0) h in
      omega (arith, whole, one)
  count_one (x ∷ xs) (suc k) h =
      let whole = sum_by-cons (λ y. cond (g y) 1 0) x xs in
      let rest = count_one xs k h in
      omega (arith, whole, rest)

  count_two : (xs : List X) (m n : ℕ) → (m ≢ n) → IsSomeAnd (slice_get xs m) (λ x. g x ≡ true) → IsSomeAnd (slice_get xs n) (λ x. g x ≡ true) → 2 ≤ count_by g xs
  count_two [] m n apart first second = absurd first
  count_two (x ∷ xs) zero zero apart first second = absurd (apart refl)
  count_two (x ∷ xs) zero (suc n) apart first second =
      let whole = sum_by-cons (λ y. cond (g y) 1 0) x xs in
      let one = ap {B = ℕ} (λ b. cond b 1 0) first in
      let rest = count_one xs n second in
      omega (arith, whole, one, rest)
  count_two (x ∷ xs) (suc m) zero apart first second =
      let whole = sum_by-cons (λ y. cond (g y) 1 0) x xs in
      let one = ap {B = ℕ} (λ b. cond b 1 0) second in
      let rest = count_one xs m first in
      omega (arith, whole, one, rest)
  count_two (x ∷ xs) (suc m) (suc n) apart first second =
      let whole = sum_by-cons (λ y. cond (g y) 1 0) x xs in
      let rest = count_two xs m n (λ same. apart (ap suc same)) first second in
      omega (arith, whole, rest)

some_and : {X : Type 0} (o : Option X) (P Q : X → Type 0) → ((x : X) → P x → Q x) → IsSomeAnd o P → IsSomeAnd o Q
some_and None P Q from h = h
some_and (Some x) P Q from h = from x h

-- ---- the rule

module _ (d : Flat) (tops : List (Vec ℕ Global)) (are : AreTops d (length d.signals) tops) (clocks resets : List Bool) (roles : AreRoles d (length d.tasks) clocks resets) where
  has_top_is : (top i : ℕ) → has_top tops top i ≡ true ↔ ComesFrom d top i
  has_top_is top i = (to, from)
    where
      to : has_top tops top i ≡ true → ComesFrom d top i
      to h =
          let (one, among, is) = any_among (λ one. one == top) (row tops i) h in
          (comes_from d tops are i top).0 (subst (Among (row tops i)) (eqb-true one top is) among)

      from : ComesFrom d top i → has_top tops top i ≡ true
      from h = any_from (λ one. one == top) (row tops i) top ((comes_from d tops are i top).1 h) (eq-eqb top top refl)

  abbrev passes : ℕ → Watched → Bool
  passes top item = has_top tops top item.signal

  twice_is : (events : List Watched) (top : ℕ) → is_twice tops events top ≡ true ↔ IsTwice d events top
  twice_is events top = (to, from)
    where
      to : is_twice tops events top ≡ true → IsTwice d events top
      to h =
          let (m, n, apart, first, second) = two_places (passes top) events (leb-true 2 (count_by (passes top) events) h) in
          record {
            first = m;
            second = n;
            apart = apart;
            one = some_and (slice_get events m) (λ item. passes top item ≡ true) (λ item. ComesFrom d top item.signal) (λ item is. (has_top_is top item.signal).0 is) first;
            other = some_and (slice_get events n) (λ item. passes top item ≡ true) (λ item. ComesFrom d top item.signal) (λ item is. (has_top_is top item.signal).0 is) second;
          }

      from : IsTwice d events top → is_twice tops events top ≡ true
      from h =
          le-leb 2 (count_by (passes top) events)
          (count_two (passes top) events h.first h.second h.apart
          (some_and (slice_get events h.first) (λ item. ComesFrom d top item.signal) (λ item. passes top item ≡ true) (λ item is. (has_top_is top item.signal).1 is) h.one)
          (some_and (slice_get events h.second) (λ item. ComesFrom d top item.signal) (λ item. passes top item ≡ true) (λ item is. (has_top_is top item.signal).1 is) h.other))

  both_is : (top : ℕ) → has_both clocks resets top ≡ true ↔ HasTwoRoles d top
  both_is top = (to, from)
    where
      to : has_both clocks resets top ≡ true → HasTwoRoles d top
      to h =
          let (c, r) = and_parts (slice_index_or clocks top false) (slice_index_or resets top false) h in
          let (p, below, clock) = (roles.clock top).0 c in
          let (q, below', reset) = (roles.reset top).0 r in
          record { clocked = p; reset = q; clock_of = clock; reset_of = reset }

      inside : (tasks : List Task) (p : ℕ) (P : Task → Type 0) → IsSomeAnd (slice_get tasks p) P → p < length tasks
      inside [] p P h = absurd h
      inside (task ∷ tasks) zero P h = omega arith
      inside (task ∷ tasks) (suc p) P h = let below = inside tasks p P h in omega (arith, below)

      from : HasTwoRoles d top → has_both clocks resets top ≡ true
      from h =
          and_from (slice_index_or clocks top false) (slice_index_or resets top false)
          ((roles.clock top).1 (h.clocked, inside d.tasks h.clocked _ h.clock_of.has, h.clock_of))
          ((roles.reset top).1 (h.reset, inside d.tasks h.reset _ h.reset_of.has, h.reset_of))

  abbrev has_role : List Watched → ℕ → Bool
  has_role events top = is_twice tops events top || has_both clocks resets top

  pub derived_is : (site : At Watched) → is_derived tops clocks resets (items_of site.task.does) site.it.signal ≡ true ↔ IsDerivedClock d site
  derived_is site = (to, from)
    where
      role : (top : ℕ) → has_role (items_of site.task.does) top ≡ true → IsTwice d (items_of site.task.does) top ⊎ HasTwoRoles d top
      role top h = elim (or_cases (is_twice tops (items_of site.task.does) top) (has_both clocks resets top) h) [
        | inl twice ↦ inl ((twice_is (items_of site.task.does) top).0 twice)
        | inr both ↦ inr ((both_is top).0 both)
      ]

      to : is_derived tops clocks resets (items_of site.task.does) site.it.signal ≡ true → IsDerivedClock d site
      to h = elim (or_cases (is_none (row tops site.it.signal)) (list_any (has_role (items_of site.task.does)) (row tops site.it.signal)) h) [
        | inl none ↦ inl (λ top comes. none_among (row tops site.it.signal) none top ((comes_from d tops are site.it.signal top).1 comes))
        | inr some ↦ let (top, among, is) = any_among (has_role (items_of site.task.does)) (row tops site.it.signal) some in
            inr (top, (comes_from d tops are site.it.signal top).0 among, role top is)
      ]

      from_role : (top : ℕ) → IsTwice d (items_of site.task.does) top ⊎ HasTwoRoles d top → has_role (items_of site.task.does) top ≡ true
      from_role top (inl twice) = or_left (is_twice tops (items_of site.task.does) top) (has_both clocks resets top) ((twice_is (items_of site.task.does) top).1 twice)
      from_role top (inr both) = or_right (is_twice tops (items_of site.task.does) top) (has_both clocks resets top) ((both_is top).1 both)

      from : IsDerivedClock d site → is_derived tops clocks resets (items_of site.task.does) site.it.signal ≡ true
      from (inl none) = or_left (is_none (row tops site.it.signal)) (list_any (has_role (items_of site.task.does)) (row tops site.it.signal)) (none_from (row tops site.it.signal) (λ top among. none top ((comes_from d tops are site.it.signal top).0 among)))
      from (inr (top, comes, which)) =
          or_right (is_none (row tops site.it.signal)) (list_any (has_role (items_of site.task.does)) (row tops site.it.signal)) (any_from (has_role (items_of site.task.does)) (row tops site.it.signal) top ((comes_from d tops are site.it.signal top).1 comes) (from_role top which))

  -- what is added at a process
  pub derived_gets : (n : ℕ) (task : Task) (old new : List Finding) → new ≡ old ++ filter_map (derived_in tops clocks resets (items_of task.does) task) (events_of task.does) → Gets (IsDerivedClock d) derived_clock_at (task_sites events_of n task) old new
  derived_gets n task old new is =
      record {
        more = filter_map (derived_in tops clocks resets (items_of task.does) task) (events_of task.does);
        added = is;
        are =
            map_findings (IsDerivedClock d) derived_clock_at (within (n, task)) (events_of task.does) (filter_map (derived_in tops clocks resets (items_of task.does) task) (events_of task.does))
            (findings_by_option (λ (item : Watched). IsDerivedClock d (within (n, task) item)) (λ (item : Watched). derived_clock_at (within (n, task) item))
            (λ (item : Watched). is_derived tops clocks resets (items_of task.does) item.signal) (λ (item : Watched). derived_is (within (n, task) item))
            (derived_in tops clocks resets (items_of task.does) task) (λ (item : Watched). refl) (events_of task.does));
      }
