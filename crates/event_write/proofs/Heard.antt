-- A mask meets the places of changes exactly where a listener hears them.
use Rattle.std.proofs.Common.{ℕ, zero, suc, ◌≡◌, ◌<◌, ◌+◌, ◌^◌, ◌∙◌, arith, Bool, true, false, not, ◌&&◌, List, [], ◌∷◌, length, refl, sym, ap, inl, inr}
use Rattle.std.specs.Prelude.{◌==◌, slice_index_or, bit_and}
use Rattle.std.specs.Int.{bit_at, trailing_zeros}
use Rattle.std.specs.Int.{w128}
use Rattle.std.proofs.lemmas.Bool.{cases_eq, eq-eqb, ne_eqb, or_cases, or_left, or_right, and_right, false≢true}
use Rattle.std.proofs.lemmas.Nat.{and_le_l}
use Rattle.std.proofs.lemmas.Nat.Bits.{bit_at-trailing_zeros}
use Rattle.rtl_bits.specs.declared.Bit.{Bit}
use Rattle.rtl_bits.specs.declared.Bit.TheVariants.{X}
use Rattle.rtl_bits.specs.Bits.{is_one_at}
use Rattle.rtl_bits.specs.Digits.{one_at-zero, one_at_and}
use Rattle.event_model.specs.Queue.{happens}
use Rattle.event_write.specs.declared.changes.Changes.{Changes}
use Rattle.event_write.specs.declared.listener.Listener.{Listener}
use Rattle.event_write.specs.Changes.{mask_of, AreChanges}
use Rattle.event_write.specs.Listeners.{hears_from}
use Rattle.event_write.proofs.Places.{nothing_happens}

-- a number that isn't 0 has a digit
has_digit : (n : ℕ) → n < 2 ^ 128 → (n ≡ 0 → ⊥) → (k : ℕ) × (is_one_at n k ≡ true)
unfolding is_one_at
has_digit n fits some =
    let v = bit_at-trailing_zeros w128 n (above n some) fits in
    (trailing_zeros w128 n, eq-eqb (bit_at n (trailing_zeros w128 n)) 1 v.1)
  where
    above : (m : ℕ) → (m ≡ 0 → ⊥) → 0 < m
    above zero h = absurd (h refl)
    above (suc m) h = omega arith

-- what one place says, where the first of the bits stands at place k
at : Listener → ℕ → List Bit → List Bit → ℕ → Bool
at l k old new j = is_one_at l.mask (k + j) && happens l.edge (slice_index_or old j X) (slice_index_or new j X)

next_place : (l : Listener) (k j : ℕ) (b : Bool) → (is_one_at l.mask (k + suc j) && b) ≡ (is_one_at l.mask (k + 1 + j) && b)
next_place l k j b = ap (λ n. is_one_at l.mask n && b) (omega arith)

up : (l : Listener) (k : ℕ) (old new : List Bit) (j : ℕ) → length old ≡ length new → at l k old new j ≡ true → hears_from l.edge l.mask k old new ≡ true
unfolding at
up l k [] [] j same e = absurd (false≢true (sym (and_right (is_one_at l.mask (k + j)) (happens l.edge X X) (nothing_happens l.edge)) ∙ e))
up l k [] (b ∷ new) j same e = absurd (omega (arith, same))
up l k (a ∷ old) [] j same e = absurd (omega (arith, same))
up l k (a ∷ old) (b ∷ new) zero same e =
    or_left (is_one_at l.mask k && happens l.edge a b) (hears_from l.edge l.mask (k + 1) old new) (ap (λ n. is_one_at l.mask n && happens l.edge a b) (omega arith) ∙ e)
up l k (a ∷ old) (b ∷ new) (suc j) same e =
    or_right (is_one_at l.mask k && happens l.edge a b) (hears_from l.edge l.mask (k + 1) old new)
    (up l (k + 1) old new j (omega (arith, same)) (sym (next_place l k j (happens l.edge (slice_index_or old j X) (slice_index_or new j X))) ∙ e))

down : (l : Listener) (k : ℕ) (old new : List Bit) → hears_from l.edge l.mask k old new ≡ true → (j : ℕ) × (at l k old new j ≡ true)
unfolding at
down l k [] new e = absurd (false≢true e)
down l k (a ∷ old) [] e = absurd (false≢true e)
down l k (a ∷ old) (b ∷ new) e =
    elim (or_cases (is_one_at l.mask k && happens l.edge a b) (hears_from l.edge l.mask (k + 1) old new) e) [
      | inl here ↦ (0, ap (λ n. is_one_at l.mask n && happens l.edge a b) (omega arith) ∙ here)
      | inr later ↦ let (j, f) = down l (k + 1) old new later in
          (suc j, next_place l k j (happens l.edge (slice_index_or old j X) (slice_index_or new j X)) ∙ f)
    ]

-- the digits that a mask has in common with the places of changes
common : (l : Listener) (changes : Changes) (old new : List Bit) (k : ℕ) → AreChanges old new changes → is_one_at (bit_and l.mask (mask_of changes l.edge)) k ≡ at l 0 old new k
unfolding at
common l changes old new k are =
    one_at_and l.mask (mask_of changes l.edge) k
    ∙ ap (λ b. is_one_at l.mask k && b) (are l.edge k)
    ∙ ap (λ n. is_one_at l.mask n && happens l.edge (slice_index_or old k X) (slice_index_or new k X)) (omega arith)

pub heard : (l : Listener) (changes : Changes) (places : ℕ) (old new : List Bit) → places ≡ mask_of changes l.edge → l.mask < 2 ^ 128 → length old ≡ length new → AreChanges old new changes → not (bit_and l.mask places == 0) ≡ hears_from l.edge l.mask 0 old new
heard l changes places old new is fits same are =
    elim (cases_eq (bit_and l.mask places) 0) [
      | inl none ↦ ap not (eq-eqb (bit_and l.mask places) 0 none) ∙ sym (silent (hears_from l.edge l.mask 0 old new) refl none)
      | inr some ↦ ap not (ne_eqb (bit_and l.mask places) 0 some) ∙ sym (loud some)
    ]
  where
    silent : (b : Bool) → hears_from l.edge l.mask 0 old new ≡ b → bit_and l.mask places ≡ 0 → b ≡ false
    silent false e none = refl
    silent true e none =
        let (j, f) = down l 0 old new e in
        absurd (false≢true (sym (one_at-zero j) ∙ ap (λ n. is_one_at n j) (sym none ∙ ap (bit_and l.mask) is) ∙ common l changes old new j are ∙ f))

    loud : (bit_and l.mask places ≡ 0 → ⊥) → hears_from l.edge l.mask 0 old new ≡ true
    loud some =
        let (k, f) = has_digit (bit_and l.mask places) (omega (arith, and_le_l l.mask places, fits)) some in
        up l 0 old new k same (sym (common l changes old new k are) ∙ ap (λ n. is_one_at (bit_and l.mask n) k) (sym is) ∙ f)
