-- Chains of a decided relation between numbers below a limit.
use Rattle.std.proofs.Common.{◌≡◌, ◌∙◌, ◌+◌, ◌<◌, ◌≤◌, ◌⊎◌, ℕ, zero, suc, Bool, true, false, cond, refl, sym, ap, subst, inl, inr, arith}
use Rattle.std.proofs.lemmas.Bool.{cases_eq, false≢true}
use Rattle.check_laws.proofs.Decisions.{Decided, both, either_of}

-- ---- chains through numbers below a limit

module _ (E : ℕ → ℕ → Type 0) where
  abbrev pub Joins : ℕ → ℕ → ℕ → Type 0
  Joins zero i j = E i j
  Joins (suc n) i j = Joins n i j ⊎ (Joins n i n × Joins n n j)

  pub joins_decided : ((i j : ℕ) → Decided (E i j)) → (n i j : ℕ) → Decided (Joins n i j)
  joins_decided each zero i j = each i j
  joins_decided each (suc n) i j =
      either_of (Joins n i j) (Joins n i n × Joins n n j) (joins_decided each n i j)
      (both (Joins n i n) (Joins n n j) (joins_decided each n i n) (joins_decided each n n j))

  pub at_once : (n i j : ℕ) → E i j → Joins n i j
  at_once zero i j e = e
  at_once (suc n) i j e = inl (at_once n i j e)

  to_last : (n i : ℕ) → Joins (suc n) i n → Joins n i n
  to_last n i (inl h) = h
  to_last n i (inr h) = h.0

  from_last : (n j : ℕ) → Joins (suc n) n j → Joins n n j
  from_last n j (inl h) = h
  from_last n j (inr h) = h.1

  through : (n m i j : ℕ) → ((i j : ℕ) → Joins n i m → Joins n m j → Joins n i j) → Joins (suc n) i m → Joins (suc n) m j → Joins (suc n) i j
  through n m i j go (inl a) (inl b) = inl (go i j a b)
  through n m i j go (inl a) (inr h) = inr (go i n a h.0, h.1)
  through n m i j go (inr h) (inl b) = inr (h.0, go n j h.1 b)
  through n m i j go (inr h) (inr k) = inr (h.0, k.1)

  pub joined : (n m i j : ℕ) → m < n → Joins n i m → Joins n m j → Joins n i j
  joined zero m i j below a b = absurd (omega (arith, below))
  joined (suc n) m i j below a b =
      elim (cases_eq m n) [
        | inl same ↦ inr (to_last n i (subst (λ x. Joins (suc n) i x) same a), from_last n j (subst (λ x. Joins (suc n) x j) same b))
        | inr other ↦ through n m i j (λ i' j' a' b'. joined n m i' j' (omega (arith, below, other)) a' b') a b
      ]

  -- a transitive relation that has each step has each chain
  pub joins_in : (T : ℕ → ℕ → Type 0) → ((i j : ℕ) → E i j → T i j) → ((i m j : ℕ) → T i m → T m j → T i j) → (n i j : ℕ) → Joins n i j → T i j
  joins_in T step trans zero i j h = step i j h
  joins_in T step trans (suc n) i j (inl h) = joins_in T step trans n i j h
  joins_in T step trans (suc n) i j (inr h) =
      trans i n j (joins_in T step trans n i n h.0) (joins_in T step trans n n j h.1)

-- ---- how many numbers pass a test

abbrev as_number : Bool → ℕ
as_number b = cond b 1 0

abbrev pub count : ℕ → (ℕ → Bool) → ℕ
count zero test = 0
count (suc n) test = as_number (test n) + count n test

one_at_most : (a b : Bool) → (a ≡ true → b ≡ true) → as_number a ≤ as_number b
one_at_most true true weaker = omega arith
one_at_most true false weaker = absurd (false≢true (weaker refl))
one_at_most false b weaker = by_bit b
  where
    by_bit : (b : Bool) → 0 ≤ as_number b
    by_bit true = omega arith
    by_bit false = omega arith

count_most : (f g : ℕ → Bool) → ((k : ℕ) → f k ≡ true → g k ≡ true) → (n : ℕ) → count n f ≤ count n g
count_most f g weaker zero = omega arith
count_most f g weaker (suc n) =
    let one = one_at_most (f n) (g n) (weaker n) in
    let more = count_most f g weaker n in
    omega (arith, one, more)

pub count_less : (f g : ℕ → Bool) → ((k : ℕ) → f k ≡ true → g k ≡ true) → (p : ℕ) → f p ≡ false → g p ≡ true → (n : ℕ) → p < n → count n f < count n g
count_less f g weaker p out into zero below = absurd (omega (arith, below))
count_less f g weaker p out into (suc n) below =
    elim (cases_eq p n) [
      | inl same ↦
          let none : as_number (f n) ≡ 0 = ap (λ k. as_number (f k)) (sym same) ∙ ap as_number out in
          let one : as_number (g n) ≡ 1 = ap (λ k. as_number (g k)) (sym same) ∙ ap as_number into in
          let more = count_most f g weaker n in
          omega (arith, none, one, more)
      | inr other ↦
          let one = one_at_most (f n) (g n) (weaker n) in
          let more = count_less f g weaker p out into n (omega (arith, below, other)) in
          omega (arith, one, more)
    ]
