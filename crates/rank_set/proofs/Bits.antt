use Rattle.std.proofs.Common.{◌≡◌, ◌≢◌, ℕ, suc, ◌+◌, ◌-◌, ◌*◌, ◌/◌, ◌%◌, ◌^◌, ◌<◌, true, false, eqb, List, length, get_or, set, refl, sym, ◌∙◌, ap, inl, inr, arith, bit_and, bit_or, get_or-set_same, get_or-set_other, w64}
use Rattle.std.specs.Int.{bit_at}
use Rattle.std.specs.Int.Count.{count_trailing_zeros, count_leading_zeros}
use Rattle.std.proofs.Math.Nat.{div-eq_of_lt-le}
use Rattle.std.proofs.lemmas.Bool.{eq-eqb, cases_eq, cases_lt}
use Rattle.std.proofs.lemmas.List.{get_or_past}
use Rattle.std.proofs.lemmas.Nat.{leading_top}
use Rattle.std.proofs.lemmas.Nat.Bits.{bit_at-zero, bit_at_above, bit_at-trailing_zeros, bit_at_set_same, bit_at_set_other, bit_at_clear_same, bit_at_clear_other}
use Rattle.rank_set.specs.Words.{bit_flag, has, IsFirstBit, IsLastBit}

-- Bits in a row of words.

flag_true : (word i : ℕ) → bit_at word i ≡ 1 → bit_flag word i ≡ true
unfolding bit_flag
flag_true word i e = eq-eqb _ _ e

flag_false : (word i : ℕ) → bit_at word i ≡ 0 → bit_flag word i ≡ false
unfolding bit_flag
flag_false word i e = ap (λ b. eqb b 1) e

flag_same : (v w i : ℕ) → bit_at v i ≡ bit_at w i → bit_flag v i ≡ bit_flag w i
unfolding bit_flag
flag_same v w i e = ap (λ b. eqb b 1) e

-- a bit by its word and its place there
pub has_is : (words : List ℕ) (k w i : ℕ) → k / 64 ≡ w → k % 64 ≡ i → has words k ≡ bit_flag (get_or words w 0) i
unfolding has
has_is words k w i e f = ap (λ u. bit_flag (get_or words u 0) (k % 64)) e ∙ ap (λ j. bit_flag (get_or words w 0) j) f

-- a word that is 0 has no bit
pub none_in_zero : (words : List ℕ) (k : ℕ) → get_or words (k / 64) 0 ≡ 0 → has words k ≡ false
unfolding has
none_in_zero words k e = ap (λ word. bit_flag word (k % 64)) e ∙ flag_false 0 (k % 64) (bit_at-zero (k % 64))

-- words that are 0 have no bits
pub none_in_zeros : (words : List ℕ) → ((w : ℕ) → w < length words → get_or words w 0 ≡ 0) → (k : ℕ) → has words k ≡ false
none_in_zeros words h k =
    elim (cases_lt (k / 64) (length words)) [
      | inl lt ↦ none_in_zero words k (h (k / 64) lt)
      | inr ge ↦ none_in_zero words k (get_or_past words (k / 64) 0 ge)
    ]

written_same : (words : List ℕ) (k word : ℕ) → k / 64 < length words → has (set words (k / 64) word) k ≡ bit_flag word (k % 64)
unfolding has
written_same words k word lt = ap (λ v. bit_flag v (k % 64)) (get_or-set_same words (k / 64) word 0 lt)

written_other : (words : List ℕ) (place word k : ℕ) → place / 64 < length words → k ≢ place → ((i : ℕ) → i < 64 → i ≢ place % 64 → bit_at word i ≡ bit_at (get_or words (place / 64) 0) i) → has (set words (place / 64) word) k ≡ has words k
unfolding has
written_other words place word k lt ne h =
    elim (cases_eq (k / 64) (place / 64)) [
      | inl e ↦
          ap (λ u. bit_flag (get_or (set words (place / 64) word) u 0) (k % 64)) e
          ∙ ap (λ v. bit_flag v (k % 64)) (get_or-set_same words (place / 64) word 0 lt)
          ∙ flag_same _ _ (k % 64) (h (k % 64) (omega arith) (λ f. absurd (ne (omega arith))))
          ∙ ap (λ u. bit_flag (get_or words u 0) (k % 64)) (sym e)
      | inr other ↦ ap (λ v. bit_flag v (k % 64)) (get_or-set_other words (place / 64) (k / 64) word 0 other)
    ]

-- `words[k / 64] |= 1 << (k % 64)`
pub set_same : (words : List ℕ) (k : ℕ) → k / 64 < length words → has (set words (k / 64) (bit_or (get_or words (k / 64) 0) (1 * 2 ^ (k % 64) % 2 ^ 64))) k ≡ true
set_same words k lt = written_same words k _ lt ∙ flag_true _ _ (bit_at_set_same w64 (get_or words (k / 64) 0) (k % 64) (omega arith))

pub set_other : (words : List ℕ) (place k : ℕ) → place / 64 < length words → k ≢ place → has (set words (place / 64) (bit_or (get_or words (place / 64) 0) (1 * 2 ^ (place % 64) % 2 ^ 64))) k ≡ has words k
set_other words place k lt ne = written_other words place _ k lt ne (λ i _ other. bit_at_set_other w64 (get_or words (place / 64) 0) (place % 64) (omega arith) i other)

-- `words[k / 64] &= !(1 << (k % 64))`
pub clear_same : (words : List ℕ) (k : ℕ) → k / 64 < length words → has (set words (k / 64) (bit_and (get_or words (k / 64) 0) (2 ^ 64 - 1 - 1 * 2 ^ (k % 64) % 2 ^ 64))) k ≡ false
clear_same words k lt = written_same words k _ lt ∙ flag_false _ _ (bit_at_clear_same w64 (get_or words (k / 64) 0) (k % 64) (omega arith))

pub clear_other : (words : List ℕ) (place k : ℕ) → place / 64 < length words → k ≢ place → has (set words (place / 64) (bit_and (get_or words (place / 64) 0) (2 ^ 64 - 1 - 1 * 2 ^ (place % 64) % 2 ^ 64))) k ≡ has words k
clear_other words place k lt ne = written_other words place _ k lt ne (λ i below other. bit_at_clear_other w64 (get_or words (place / 64) 0) (place % 64) (omega arith) i below other)

-- the lowest bit of the first word that isn't 0
pub first_bit_is : (words : List ℕ) (w : ℕ) → 0 < get_or words w 0 → get_or words w 0 < 2 ^ 64 → ((v : ℕ) → v < w → get_or words v 0 ≡ 0) → IsFirstBit words (w * 64 + count_trailing_zeros 64 (get_or words w 0))
first_bit_is words w some fits zeros =
    let t = bit_at-trailing_zeros w64 (get_or words w 0) some fits in
    let below : count_trailing_zeros 64 (get_or words w 0) < 64 = t.0 in
    record {
      bit = has_is words _ w (count_trailing_zeros 64 (get_or words w 0)) (omega arith) (omega arith) ∙ flag_true _ _ t.1;
      before = λ k lt.
          elim (cases_lt (k / 64) w) [
            | inl earlier ↦ none_in_zero words k (zeros (k / 64) earlier)
            | inr there ↦ has_is words k w (k % 64) (omega arith) refl ∙ flag_false _ _ (t.2 (k % 64) (omega arith))
          ];
    }

top_below : (n j : ℕ) → n < 2 ^ suc j → n < (1 + 1) * 2 ^ j
top_below n j h = omega (arith, h)

-- the highest bit of the last word that isn't 0
pub last_bit_is : (words : List ℕ) (w : ℕ) → 0 < get_or words w 0 → get_or words w 0 < 2 ^ 64 → ((v : ℕ) → w < v → get_or words v 0 ≡ 0) → IsLastBit words (w * 64 + (63 - count_leading_zeros 64 (get_or words w 0)))
last_bit_is words w some fits zeros =
    let t = leading_top 64 (get_or words w 0) some fits in
    let e : count_leading_zeros 64 (get_or words w 0) + suc t.0 ≡ 64 = t.1 in
    let q = div-eq_of_lt-le {k = 1} (2 ^ t.0) {m = get_or words w 0} (omega (arith, t.2)) (top_below (get_or words w 0) t.0 t.3) in
    record {
      bit = has_is words _ w t.0 (omega arith) (omega arith) ∙ flag_true _ t.0 (ap (λ d. d % 2) q);
      after = λ k lt.
          elim (cases_lt w (k / 64)) [
            | inl later ↦ none_in_zero words k (zeros (k / 64) later)
            | inr there ↦ has_is words k w (k % 64) (omega arith) refl ∙ flag_false _ _ (bit_at_above (get_or words w 0) (suc t.0) (k % 64) t.3 (omega arith))
          ];
    }
