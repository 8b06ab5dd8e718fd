-- Widths of signals, and the places that selects mean.
use Rattle.std.proofs.Common.{ℕ, zero, suc, ◌≡◌, ◌<◌, ◌≤◌, ◌+◌, ◌-◌, ◌*◌, ◌^◌, ◌%◌, ◌∙◌, arith, false, ◌&&◌, List, [], ◌∷◌, length, get_or, min, refl, sym, ap, inl, inr}
use Rattle.std.specs.Prelude.{nat_lt, nat_le, ◌==◌, ℤ, pos, negsuc}
use Rattle.std.proofs.Common.{FitsSigned, w64}
use Rattle.std.specs.Int.{FitsUnsignedBits}
use lib.IntN.{nat_abs}
use Rattle.std.proofs.lemmas.Int.{ints}
use Rattle.std.proofs.lemmas.Bool.{cases_lt, cases_eq, lt-ltb, le-ltb, lt-leb, eq-eqb, ne_eqb, and_right, and_left}
use Rattle.std.proofs.lemmas.Nat.{shl_whole}
use Rattle.std.proofs.Math.Nat.{one-mul}
use Rattle.std.proofs.lemmas.Nat.Bits.{bit_at-pow_same, bit_at-pow_other}
use Rattle.rtl_bits.specs.Bits.{is_one_at}
use Rattle.rtl_bits.specs.Digits.{one_at-zero}
use Rattle.rtl_flat.specs.declared.signal.Signal.{Signal}
use Rattle.rtl_flat.specs.Signs.{width_in}
use Rattle.rtl_flat.specs.Flows.{is_place}
use Rattle.rtl_scan.proofs.Masks.{from_one, from_zero}

pub width_at : (signals : List Signal) (i : ℕ) (d : Signal) → i < length signals → (get_or signals i d).width ≡ width_in signals i
width_at [] i d h = absurd (omega arith)
width_at (s ∷ signals) zero d h = refl
width_at (s ∷ signals) (suc i) d h = width_at signals i d (omega arith)

pub width_past : (signals : List Signal) (i : ℕ) → length signals ≤ i → 0 ≡ width_in signals i
width_past [] i h = refl
width_past (s ∷ signals) zero h = absurd (omega arith)
width_past (s ∷ signals) (suc i) h = width_past signals i (omega arith)

-- no place is from one on and below another that isn't above it
pub none_between : (low high k : ℕ) → high ≤ low → is_one_at 0 k ≡ (nat_le low k && nat_lt k high)
none_between low high k h =
    one_at-zero k ∙ elim (cases_lt k high) as (λ _. false ≡ (nat_le low k && nat_lt k high)) [
      | inl below ↦ sym (and_left (nat_le low k) (nat_lt k high) (lt-leb low k (omega arith)))
      | inr above ↦ sym (and_right (nat_le low k) (nat_lt k high) (le-ltb k high above))
    ]

-- a bound that is the lower of two
pub below_both : (k a b : ℕ) → nat_lt k (min a b) ≡ (nat_lt k a && nat_lt k b)
below_both k a b =
    elim (cases_lt k (min a b)) as (λ _. nat_lt k (min a b) ≡ (nat_lt k a && nat_lt k b)) [
      | inl below ↦ let first : k < a = omega arith in
          let second : k < b = omega arith in
          rw (lt-ltb k (min a b) below, lt-ltb k a first, lt-ltb k b second) refl
      | inr above ↦ rw (le-ltb k (min a b) above) (elim (cases_lt k a) as (λ _. false ≡ (nat_lt k a && nat_lt k b)) [
        | inl here ↦ let past : b ≤ k = omega arith in sym (and_right (nat_lt k a) (nat_lt k b) (le-ltb k b past))
        | inr past ↦ sym (and_left (nat_lt k a) (nat_lt k b) (le-ltb k a past))
      ])
    ]

pub negative_place : (width low k : ℕ) (index : ℤ) → ((n : ℕ) → index ≡ pos n → ⊥) → is_one_at 0 k ≡ (nat_lt k width && is_place low index k)
negative_place width low k (pos n) h = absurd (h n refl)
negative_place width low k (negsuc n) h =
    one_at-zero k ∙ sym (and_right (nat_lt k width) false refl)

pub place_below : (width low n k : ℕ) → n < low → is_one_at 0 k ≡ (nat_lt k width && is_place low (pos n) k)
place_below width low n k h =
    one_at-zero k ∙ sym (and_right (nat_lt k width) (low + k == n) (ne_eqb (low + k) n (λ e. omega arith)))

pub place_past : (width low n k : ℕ) → low ≤ n → width ≤ n - low → is_one_at 0 k ≡ (nat_lt k width && is_place low (pos n) k)
place_past width low n k h past =
    one_at-zero k ∙ elim (cases_lt k width) as (λ _. false ≡ (nat_lt k width && (low + k == n))) [
      | inl below ↦ sym (and_right (nat_lt k width) (low + k == n) (ne_eqb (low + k) n (λ e. omega arith)))
      | inr above ↦ sym (and_left (nat_lt k width) (low + k == n) (le-ltb k width above))
    ]

-- `1 << place`
pub place_there : (width low n k : ℕ) → low ≤ n → n - low < width → width ≤ 128 → is_one_at (1 * 2 ^ (n - low) % 2 ^ 128) k ≡ (nat_lt k width && is_place low (pos n) k)
place_there width low n k h below fits =
    ap (λ m. is_one_at m k) (shifted (n - low) (omega arith)) ∙ elim (cases_eq k (n - low)) as (λ _. is_one_at (2 ^ (n - low)) k ≡ (nat_lt k width && (low + k == n))) [
      | inl e ↦ ap (is_one_at (2 ^ (n - low))) e ∙ from_one (2 ^ (n - low)) (n - low) (bit_at-pow_same (n - low))
          ∙ (let inside : k < width = omega arith in
          let same : low + k ≡ n = omega arith in
          rw (lt-ltb k width inside, eq-eqb (low + k) n same) refl)
      | inr apart ↦ from_zero (2 ^ (n - low)) k (bit_at-pow_other (n - low) k apart)
          ∙ sym (and_right (nat_lt k width) (low + k == n) (ne_eqb (low + k) n (λ e. apart (omega arith))))
    ]
  where
    shifted : (j : ℕ) → j < 128 → 1 * 2 ^ j % 2 ^ 128 ≡ 2 ^ j
    shifted j inside =
        shl_whole 1 1 j 128 (omega arith) (omega arith) ∙ one-mul (2 ^ j)

-- an index that is a number from 0 on
pub index_is : (index : ℤ) (there : ℤ) (n : ℕ) → there ≡ index → FitsUnsignedBits 64 there × (n ≡ nat_abs there) → index ≡ pos n
index_is index (pos m) n same h = sym same ∙ ap pos (sym h.1)
index_is index (negsuc m) n same h = absurd h.0

pub no_index : (index there : ℤ) → FitsSigned w64 index → there ≡ index → (FitsUnsignedBits 64 there → ⊥) → (n : ℕ) → index ≡ pos n → ⊥
no_index index (pos m) fits same none n is =
    let e : pos m ≡ pos n = same ∙ is in
    let small : m < 2 ^ 64 = omega (arith, ints) in
    none small
no_index index (negsuc m) fits same none n is = absurd (let e : negsuc m ≡ pos n = same ∙ is in cc)
