-- One digit more.
use Rattle.std.specs.Prelude.{ℕ, zero, suc, ◌+◌, ◌^◌, ◌<◌, ◌≤◌, false, List, [], ◌∷◌, ◌++◌, length, take, drop, reverse, slice_index_or}
use Rattle.std.proofs.Common.{◌≡◌, ◌∙◌, ap, sym, refl, arith, append_assoc, length-drop}
use Rattle.std.proofs.lemmas.List.{reverse-append, take_all}
use Rattle.rtl_bits.specs.declared.Bit.{Bit}
use Rattle.rtl_bits.specs.declared.Bit.TheVariants.{Zero, One, X, Z}
use Rattle.rtl_bits.specs.Bits.{has_unknown, number, selected}
use Rattle.desk_report.specs.Values.{binary_digits, digit_of, hex_digit, hex_digits}

-- the lowest digit, and those of the bits above the lowest four
low_digit : (bits : List Bit) → 0 < length bits → hex_digits bits ≡ hex_digit (number (take 4 bits)) ∷ hex_digits (drop 4 bits)
low_digit [] some = absurd (omega arith)
low_digit (a ∷ []) some = refl
low_digit (a ∷ b ∷ []) some = refl
low_digit (a ∷ b ∷ c ∷ []) some = refl
low_digit (a ∷ b ∷ c ∷ d ∷ bits) some = refl

pub lowest : (bits high : List Bit) (count : ℕ) → 4 < length bits → length bits ≤ 4 + count → high ≡ selected 4 count bits → hex_digits bits ≡ hex_digit (number (take 4 bits)) ∷ hex_digits high
lowest bits high count many all is =
    low_digit bits (omega arith)
    ∙ ap (λ above. hex_digit (number (take 4 bits)) ∷ hex_digits above) (sym (is ∙ take_all count (drop 4 bits) (left bits count all)))
  where
    left : (bits : List Bit) (count : ℕ) → length bits ≤ 4 + count → length (drop 4 bits) ≤ count
    left bits count all = grind (arith, length-drop)

pub lowest_bit : (bits : List Bit) → 0 < length bits → binary_digits bits ≡ digit_of (slice_index_or bits 0 X) ∷ binary_digits (drop 1 bits)
lowest_bit [] some = absurd (omega arith)
lowest_bit (a ∷ bits) some = refl

pub taken_known : (n : ℕ) (bits : List Bit) → has_unknown bits ≡ false → has_unknown (take n bits) ≡ false
taken_known zero bits known = refl
taken_known (suc n) [] known = refl
taken_known (suc n) (Zero ∷ bits) known = taken_known n bits known
taken_known (suc n) (One ∷ bits) known = taken_known n bits known
taken_known (suc n) (X ∷ bits) known = absurd (cc)
taken_known (suc n) (Z ∷ bits) known = absurd (cc)

dropped : (n : ℕ) (bits : List Bit) → has_unknown bits ≡ false → has_unknown (drop n bits) ≡ false
dropped zero bits known = known
dropped (suc n) [] known = known
dropped (suc n) (Zero ∷ bits) known = dropped n bits known
dropped (suc n) (One ∷ bits) known = dropped n bits known
dropped (suc n) (X ∷ bits) known = absurd (cc)
dropped (suc n) (Z ∷ bits) known = absurd (cc)

-- a part of known bits is known
pub part_known : (at width : ℕ) (bits : List Bit) → has_unknown bits ≡ false → has_unknown (selected at width bits) ≡ false
part_known at width bits known = taken_known width (drop at bits) (dropped at bits known)

pub one_digit : (n width : ℕ) → n < 2 ^ width → width ≤ 4 → n < 16
one_digit n zero less small = omega arith
one_digit n (suc zero) less small = omega arith
one_digit n (suc (suc zero)) less small = omega arith
one_digit n (suc (suc (suc zero))) less small = omega arith
one_digit n (suc (suc (suc (suc zero)))) less small = less
one_digit n (suc (suc (suc (suc (suc more))))) less small = absurd (omega arith)

-- four bits or fewer are one digit
pub alone : (bits : List Bit) → 0 < length bits → length bits ≤ 4 → hex_digits bits ≡ hex_digit (number (take 4 bits)) ∷ []
alone [] some few = absurd (omega arith)
alone (a ∷ []) some few = refl
alone (a ∷ b ∷ []) some few = refl
alone (a ∷ b ∷ c ∷ []) some few = refl
alone (a ∷ b ∷ c ∷ d ∷ []) some few = refl
alone (a ∷ b ∷ c ∷ d ∷ e ∷ bits) some few = absurd (omega arith)

-- the lowest digit is written behind those of the bits above it
pub written : (bits high : List Bit) (count digit : ℕ) (before mid all : List ℕ) → 4 < length bits → length bits ≤ 4 + count → high ≡ selected 4 count bits → digit ≡ hex_digit (number (take 4 bits)) → mid ≡ before ++ reverse (hex_digits high) → all ≡ mid ++ digit ∷ [] → all ≡ before ++ reverse (hex_digits bits)
written bits high count digit before mid all many whole is digit_is mid_is all_is =
    all_is
    ∙ ap (λ xs. xs ++ digit ∷ []) mid_is
    ∙ append_assoc before (reverse (hex_digits high)) (digit ∷ [])
    ∙ ap (λ xs. before ++ xs) (sym (reverse-append (digit ∷ []) (hex_digits high)))
    ∙ ap (λ d. before ++ reverse (d ∷ hex_digits high)) digit_is
    ∙ ap (λ xs. before ++ reverse xs) (sym (lowest bits high count many whole is))
