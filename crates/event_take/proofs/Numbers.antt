-- The first and the last of the numbers that pass a test.
use Rattle.std.proofs.Common.{◌≡◌, ◌<◌, ◌≤◌, ◌+◌, ◌∙◌, ◌++◌, ℕ, zero, suc, Bool, true, false, cond, List, [], ◌∷◌, Some, refl, ap, inl, inr, arith}
use Rattle.std.specs.List.{filter, range_with_len}
use Rattle.std.proofs.lemmas.Bool.{cases_order}
use Rattle.event_model.specs.Order.{numbers}
use Rattle.event_model.specs.Policies.{last_of}

none_in : (test : ℕ → Bool) (a n : ℕ) → ((k : ℕ) → test k ≡ false) → filter test (range_with_len a n) ≡ []
none_in test a zero none = refl
none_in test a (suc n) none = rw (none a) (none_in test (a + 1) n none)

pub no_numbers : (test : ℕ → Bool) (n : ℕ) → ((k : ℕ) → test k ≡ false) → numbers n test ≡ []
no_numbers test n none = none_in test 0 n none

first_in : (test : ℕ → Bool) (a n r : ℕ) → a ≤ r → r < a + n → test r ≡ true → ((k : ℕ) → k < r → test k ≡ false) → (rest : List ℕ) × (filter test (range_with_len a n) ≡ r ∷ rest)
first_in test a zero r low high there none = absurd (omega (arith, low, high))
first_in test a (suc n) r low high there none =
    elim (cases_order a r) [
      | inl same ↦ (filter test (range_with_len (a + 1) n), rw (ap test same ∙ there) (ap (λ k. k ∷ filter test (range_with_len (a + 1) n)) same))
      | inr apart ↦
          elim apart [
            | inl below ↦ let (rest, is) = first_in test (a + 1) n r (omega (arith, below)) (omega (arith, high)) there none in
                (rest, rw (none a below) is)
            | inr above ↦ absurd (omega (arith, above, low))
          ]
    ]

pub first_number : (test : ℕ → Bool) (n r : ℕ) → r < n → test r ≡ true → ((k : ℕ) → k < r → test k ≡ false) → (rest : List ℕ) × (numbers n test ≡ r ∷ rest)
first_number test n r within there none =
    first_in test 0 n r (omega arith) (omega (arith, within)) there none

past_in : (test : ℕ → Bool) (a n : ℕ) → ((k : ℕ) → a ≤ k → test k ≡ false) → filter test (range_with_len a n) ≡ []
past_in test a zero none = refl
past_in test a (suc n) none =
    rw (none a (omega arith)) (past_in test (a + 1) n (λ k low. none k (omega (arith, low))))

last_in : (test : ℕ → Bool) (a n r : ℕ) → a ≤ r → r < a + n → test r ≡ true → ((k : ℕ) → r < k → test k ≡ false) → (front : List ℕ) × (filter test (range_with_len a n) ≡ front ++ r ∷ [])
last_in test a zero r low high there none = absurd (omega (arith, low, high))
last_in test a (suc n) r low high there none =
    elim (cases_order a r) [
      | inl same ↦ ([], rw (ap test same ∙ there) (ap (λ xs. a ∷ xs) (past_in test (a + 1) n (λ k past. none k (omega (arith, past, same)))) ∙ ap (λ k. k ∷ []) same))
      | inr apart ↦
          elim apart [
            | inl below ↦ let (front, is) = last_in test (a + 1) n r (omega (arith, below)) (omega (arith, high)) there none in
                by_test (test a) front is
            | inr above ↦ absurd (omega (arith, above, low))
          ]
    ]
  where
    by_test : (b : Bool) (front : List ℕ) → filter test (range_with_len (a + 1) n) ≡ front ++ r ∷ [] → (all : List ℕ) × (cond b (a ∷ filter test (range_with_len (a + 1) n)) (filter test (range_with_len (a + 1) n)) ≡ all ++ r ∷ [])
    by_test true front is = (a ∷ front, ap (λ xs. a ∷ xs) is)
    by_test false front is = (front, is)

pub last_number : (test : ℕ → Bool) (n r : ℕ) → r < n → test r ≡ true → ((k : ℕ) → r < k → test k ≡ false) → (front : List ℕ) × (numbers n test ≡ front ++ r ∷ [])
last_number test n r within there none =
    last_in test 0 n r (omega arith) (omega (arith, within)) there none

-- the last of a list that ends so
pub last_at_end : {A : Type 0} (xs : List A) (x : A) → last_of (xs ++ x ∷ []) ≡ Some x
last_at_end [] x = refl
last_at_end (y ∷ []) x = refl
last_at_end (y ∷ z ∷ xs) x = last_at_end (z ∷ xs) x
