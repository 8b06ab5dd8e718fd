use Rattle.std.proofs.Common.{◌≡◌, ◌≢◌, ℕ, ◌<◌, ◌⊎◌, List, length, get_or, refl, sym, ◌∙◌, ap, arith, inl, inr}
use Rattle.std.specs.List.{swap, range_with_len}
use Rattle.std.specs.List.Sorted.{IsPermutation}
use Rattle.std.proofs.lemmas.Bool.{cases_eq}
use Rattle.std.proofs.lemmas.List.Edits.{Swapped, swapped_from_swap, length-swap}
use Rattle.std.proofs.lemmas.List.FromFn.{length-range_with_len, get_or-range_with_len}
use Rattle.std.proofs.lemmas.List.Sorted.{IsPermutation-keeps}

-- Numbers that stand once in a list.

-- two places have different numbers
abbrev pub AreDistinct : List ℕ → Type 0
AreDistinct xs = (i j : ℕ) → i < length xs → j < length xs → get_or xs i 0 ≡ get_or xs j 0 → i ≡ j

-- where a place's number was before a swap of places a and b
record Before (xs ys : List ℕ) (a b k : ℕ) : Type 0 where
  place : ℕ
  within : place < length xs
  is : get_or ys k 0 ≡ get_or xs place 0
  moved : ((k ≡ a) × (place ≡ b)) ⊎ (((k ≡ b) × (place ≡ a)) ⊎ ((k ≢ a) × (k ≢ b) × (place ≡ k)))

before : (xs ys : List ℕ) (a b k : ℕ) → a < length xs → b < length xs → k < length xs → Swapped (λ i. get_or xs i 0) (λ i. get_or ys i 0) a b → Before xs ys a b k
before xs ys a b k in_a in_b in_k h =
    elim (cases_eq k a) [
      | inl e ↦ record { place = b; within = in_b; is = ap (λ i. get_or ys i 0) e ∙ h.0; moved = inl (e, refl) }
      | inr na ↦
          elim (cases_eq k b) [
            | inl e ↦ record { place = a; within = in_a; is = ap (λ i. get_or ys i 0) e ∙ h.1; moved = inr (inl (e, refl)) }
            | inr nb ↦ record { place = k; within = in_k; is = h.2 k na nb; moved = inr (inr (na, nb, refl)) }
          ]
    ]

-- one place before the swap is one place after it
one_place : (a b i j p q : ℕ) → p ≡ q → ((i ≡ a) × (p ≡ b)) ⊎ (((i ≡ b) × (p ≡ a)) ⊎ ((i ≢ a) × (i ≢ b) × (p ≡ i))) → ((j ≡ a) × (q ≡ b)) ⊎ (((j ≡ b) × (q ≡ a)) ⊎ ((j ≢ a) × (j ≢ b) × (q ≡ j))) → i ≡ j
one_place a b i j p q e (inl x) (inl y) = omega (arith, e, x.0, y.0)
one_place a b i j p q e (inl x) (inr (inl y)) = omega (arith, e, x.0, x.1, y.0, y.1)
one_place a b i j p q e (inl x) (inr (inr y)) = absurd (y.1 (omega (arith, e, x.1, y.2)))
one_place a b i j p q e (inr (inl x)) (inl y) = omega (arith, e, x.0, x.1, y.0, y.1)
one_place a b i j p q e (inr (inl x)) (inr (inl y)) = omega (arith, e, x.0, y.0)
one_place a b i j p q e (inr (inl x)) (inr (inr y)) = absurd (y.0 (omega (arith, e, x.1, y.2)))
one_place a b i j p q e (inr (inr x)) (inl y) = absurd (x.1 (omega (arith, e, y.1, x.2)))
one_place a b i j p q e (inr (inr x)) (inr (inl y)) = absurd (x.0 (omega (arith, e, y.1, x.2)))
one_place a b i j p q e (inr (inr x)) (inr (inr y)) = omega (arith, e, x.2, y.2)

distinct_swap : (xs : List ℕ) (a b : ℕ) → a < length xs → b < length xs → AreDistinct xs → AreDistinct (swap xs a b)
distinct_swap xs a b in_a in_b h = λ i j in_i in_j e.
    let n = length-swap xs a b in
    let h' = swapped_from_swap xs (swap xs a b) a b 0 in_a in_b refl in
    let p = before xs (swap xs a b) a b i in_a in_b (omega (arith, n, in_i)) h' in
    let q = before xs (swap xs a b) a b j in_a in_b (omega (arith, n, in_j)) h' in
    one_place a b i j p.place q.place (h p.place q.place p.within q.within (sym p.is ∙ e ∙ q.is)) p.moved q.moved

-- numbers that stand once stand once in each order
pub distinct_permutation : (xs ys : List ℕ) → IsPermutation xs ys → AreDistinct xs → AreDistinct ys
distinct_permutation xs ys perm h = IsPermutation-keeps xs AreDistinct h distinct_swap ys perm

pub distinct_range : (n : ℕ) → AreDistinct (range_with_len 0 n)
distinct_range n = λ i j in_i in_j e.
    let len = length-range_with_len 0 n in
    let x = get_or-range_with_len 0 n i 0 (omega (arith, len, in_i)) in
    let y = get_or-range_with_len 0 n j 0 (omega (arith, len, in_j)) in
    omega (arith, x, y, e)
