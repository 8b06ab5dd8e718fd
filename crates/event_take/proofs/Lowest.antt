-- The woken process of least level.
use Rattle.std.proofs.Common.{◌≡◌, ◌≢◌, ◌<◌, ◌≤◌, ◌+◌, ◌∙◌, ◌⊎◌, ℕ, zero, suc, Bool, true, false, cond, List, ◌∷◌, length, Option, None, Some, refl, sym, ap, inl, inr, arith}
use Rattle.std.specs.List.{filter, range_with_len}
use Rattle.std.proofs.lemmas.Bool.{cases_order, true≢false, ltb-true, le-ltb}
use Rattle.rank_set.specs.Ranks.{flag}
use Rattle.rank_set.proofs.Law.{member_within}
use Rattle.agenda.specs.Agendas as agenda
use Rattle.event_model.specs.Order.{numbers}
use Rattle.event_model.specs.Policies.{is_below, lower, lowest}

-- levels are compared in one way
below_is : (a b : Option ℕ) → agenda.is_below a b ≡ is_below a b
below_is (Some a) (Some b) = refl
below_is (Some a) None = refl
below_is None b = refl

-- not both of two levels are below the other
not_below : (a b : Option ℕ) → is_below a b ≡ true → is_below b a ≡ false
not_below (Some a) (Some b) e =
    let less : a < b = ltb-true a b e in le-ltb b a (omega (arith, less))
not_below (Some a) None e = refl
not_below None b e = absurd (true≢false (sym e))

-- whether the level of p comes before that of q, or they are the same and p is less
abbrev Precedes : (ℕ → Option ℕ) → ℕ → ℕ → Type 0
Precedes level p q =
    (is_below (level p) (level q) ≡ true) ⊎ ((is_below (level q) (level p) ≡ false) × (p < q))

ahead_precedes : (levels : List (Option ℕ)) (p q : ℕ) → agenda.IsAhead levels p q → Precedes (agenda.level_at levels) p q
ahead_precedes levels p q h =
    elim h as (λ _. Precedes (agenda.level_at levels) p q) [
      | inl below ↦ inl (sym (below_is (agenda.level_at levels p) (agenda.level_at levels q)) ∙ below)
      | inr not_above ↦ inr (sym (below_is (agenda.level_at levels q) (agenda.level_at levels p)) ∙ not_above.0, not_above.1)
    ]

not_after : (level : ℕ → Option ℕ) (p q : ℕ) → Precedes level p q → is_below (level q) (level p) ≡ false
not_after level p q h =
    elim h as (λ _. is_below (level q) (level p) ≡ false) [
      | inl below ↦ not_below (level p) (level q) below
      | inr not_above ↦ not_above.0
    ]

-- ---- the lowest of numbers that pass a test

-- whether a number, if there is one, passes a test and isn't below a limit
abbrev Belongs : (ℕ → Bool) → ℕ → Option ℕ → Type 0
Belongs test a None = Unit {0}
Belongs test a (Some q) = (test q ≡ true) × (a ≤ q)

lower_belongs : (level : ℕ → Option ℕ) (test : ℕ → Bool) (a : ℕ) → test a ≡ true → (o : Option ℕ) → Belongs test (a + 1) o → Belongs test a (Some (lower level a o))
lower_belongs level test a there None h = (there, omega arith)
lower_belongs level test a there (Some q) h = by_level (is_below (level q) (level a))
  where
    by_level : (b : Bool) → Belongs test a (Some (cond b q a))
    by_level true = let above = h.1 in (h.0, omega (arith, above))
    by_level false = (there, omega arith)

later_belongs : (test : ℕ → Bool) (a : ℕ) (o : Option ℕ) → Belongs test (a + 1) o → Belongs test a o
later_belongs test a None h = tt
later_belongs test a (Some q) h = let above = h.1 in (h.0, omega (arith, above))

belongs : (level : ℕ → Option ℕ) (test : ℕ → Bool) (a n : ℕ) → Belongs test a (lowest level (filter test (range_with_len a n)))
belongs level test a zero = tt
belongs level test a (suc n) =
    by_test (test a) refl (belongs level test (a + 1) n)
  where
    by_test : (b : Bool) → test a ≡ b → Belongs test (a + 1) (lowest level (filter test (range_with_len (a + 1) n))) → Belongs test a (lowest level (cond b (a ∷ filter test (range_with_len (a + 1) n)) (filter test (range_with_len (a + 1) n))))
    by_test true there h =
        lower_belongs level test a there (lowest level (filter test (range_with_len (a + 1) n))) h
    by_test false none h = later_belongs test a (lowest level (filter test (range_with_len (a + 1) n))) h

-- a number that precedes all others is the lower of it and another
stays_lowest : (level : ℕ → Option ℕ) (test : ℕ → Bool) (r : ℕ) → ((q : ℕ) → test q ≡ true → q ≢ r → Precedes level r q) → (o : Option ℕ) → Belongs test (r + 1) o → lower level r o ≡ r
stays_lowest level test r first None h = refl
stays_lowest level test r first (Some q) h =
    let above = h.1 in
    ap (λ b. cond b q r) (not_after level r q (first q h.0 (λ same. omega (arith, above, same))))

-- another number gives way to it
gives_way : (level : ℕ → Option ℕ) (r a : ℕ) → a < r → Precedes level r a → lower level a (Some r) ≡ r
gives_way level r a before h =
    elim h as (λ _. lower level a (Some r) ≡ r) [
      | inl below ↦ ap (λ b. cond b r a) below
      | inr back ↦ absurd (let less = back.1 in omega (arith, before, less))
    ]

-- one number more, before the lowest
one_before : (level : ℕ → Option ℕ) (test : ℕ → Bool) (r : ℕ) → ((q : ℕ) → test q ≡ true → q ≢ r → Precedes level r q) → (a n : ℕ) → a < r → lowest level (filter test (range_with_len (a + 1) n)) ≡ Some r → lowest level (filter test (range_with_len a (suc n))) ≡ Some r
one_before level test r first a n below is = by_test (test a) refl
  where
    by_test : (b : Bool) → test a ≡ b → lowest level (cond b (a ∷ filter test (range_with_len (a + 1) n)) (filter test (range_with_len (a + 1) n))) ≡ Some r
    by_test true here =
        ap (λ (o : Option ℕ). Some (lower level a o)) is ∙ ap Some (gives_way level r a below (first a here (λ same. omega (arith, below, same))))
    by_test false none = is

at_place : (level : ℕ → Option ℕ) (test : ℕ → Bool) (r : ℕ) → test r ≡ true → ((q : ℕ) → test q ≡ true → q ≢ r → Precedes level r q) → (a n : ℕ) → a ≡ r → lowest level (filter test (range_with_len a (suc n))) ≡ Some r
at_place level test r there first a n same =
    ap (λ k. lowest level (filter test (range_with_len k (suc n)))) same
    ∙ ap (λ b. lowest level (cond b (r ∷ filter test (range_with_len (r + 1) n)) (filter test (range_with_len (r + 1) n)))) there
    ∙ ap Some (stays_lowest level test r first (lowest level (filter test (range_with_len (r + 1) n))) (belongs level test (r + 1) n))

lowest_in : (level : ℕ → Option ℕ) (test : ℕ → Bool) (r : ℕ) → test r ≡ true → ((q : ℕ) → test q ≡ true → q ≢ r → Precedes level r q) → (a n : ℕ) → a ≤ r → r < a + n → lowest level (filter test (range_with_len a n)) ≡ Some r
lowest_in level test r there first a zero low high = absurd (omega (arith, low, high))
lowest_in level test r there first a (suc n) low high =
    elim (cases_order a r) as (λ _. lowest level (filter test (range_with_len a (suc n))) ≡ Some r) [
      | inl same ↦ at_place level test r there first a n same
      | inr apart ↦
          elim apart as (λ _. lowest level (filter test (range_with_len a (suc n))) ≡ Some r) [
            | inl below ↦ one_before level test r first a n below (lowest_in level test r there first (a + 1) n (omega (arith, below)) (omega (arith, high)))
            | inr above ↦ absurd (omega (arith, above, low))
          ]
    ]

pub lowest_is : (levels : List (Option ℕ)) (flags : List Bool) (test : ℕ → Bool) (n r : ℕ) → length flags ≡ n → ((k : ℕ) → test k ≡ flag flags k) → agenda.IsLowest levels flags r → lowest (agenda.level_at levels) (numbers n test) ≡ Some r
lowest_is levels flags test n r size are is =
    let within = member_within flags r is.member in
    lowest_in (agenda.level_at levels) test r (are r ∙ is.member) (λ q there apart. ahead_precedes levels r q (is.before q (sym (are q) ∙ there) apart)) 0 n (omega arith) (omega (arith, within, size))
