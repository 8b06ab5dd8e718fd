-- Numbers in two's complement.
use Rattle.std.proofs.Common.{◌≡◌, ℕ, suc, ◌-◌, ◌*◌, ◌<◌, false, cond, not, arith, inl, inr, ◌/◌, ◌%◌, Bool, true, refl, ap, sym, length, List, ◌^◌}
use Rattle.std.specs.Prelude.{nat_lt, ℤ, pos, negsuc, ◌-ℤ◌, int_lt, neg_ℤ, unsigned_abs, int_div, int_rem}
use Rattle.std.proofs.lemmas.Int.{ints}
use Rattle.std.proofs.lemmas.Bool.{cases_Bool, true≢false}
use mathlib.Core.Bool.{beq}
use Rattle.rtl_bits.specs.Bits.{bits_of_signed, number, signed_number}
use Rattle.rtl_bits.proofs.Numbers.{number-lt}
use Rattle.rtl_bits.specs.declared.Bit.{Bit}

pub below_zero : (n w : ℕ) → n < w → pos n -ℤ pos w ≡ negsuc (w - suc n)
below_zero n w h = omega (arith, ints)

-- the number that n stands for where half of w and more is negative
abbrev wrapped : ℕ → ℕ → ℤ
wrapped n w = cond (nat_lt (2 * n) w) (pos n) (pos n -ℤ pos w)

pub other_signs : (m n w : ℕ) → m < w → n < w → beq (not (nat_lt (2 * m) w)) (not (nat_lt (2 * n) w)) ≡ false → not (nat_lt (2 * m) w) ≡ int_lt (wrapped m w) (wrapped n w)
other_signs m n w p q h =
    elim (cases_Bool (nat_lt (2 * m) w)) [
      | inl a ↦ elim (cases_Bool (nat_lt (2 * n) w)) [
        | inl b ↦ absurd (true≢false (rw (a, b) at h))
        | inr b ↦ rw (a, b, below_zero n w q)
      ]
      | inr a ↦ elim (cases_Bool (nat_lt (2 * n) w)) [
        | inl b ↦ rw (a, b, below_zero m w p)
        | inr b ↦ absurd (true≢false (rw (a, b) at h))
      ]
    ]

-- whether a whole number is below 0
abbrev is_below_zero : ℤ → Bool
is_below_zero (pos n) = false
is_below_zero (negsuc n) = true

pub sign_of : (n w : ℕ) → n < w → is_below_zero (wrapped n w) ≡ not (nat_lt (2 * n) w)
sign_of n w h =
    elim (cases_Bool (nat_lt (2 * n) w)) [ inl a ↦ rw a | inr a ↦ rw (a, below_zero n w h) ]

-- division by cases of the signs
pub quotient_is : (x y : ℤ) → int_div x y ≡ cond (not (beq (is_below_zero x) (is_below_zero y))) (neg_ℤ (pos (unsigned_abs x / unsigned_abs y))) (pos (unsigned_abs x / unsigned_abs y))
quotient_is (pos m) (pos n) = refl
quotient_is (pos m) (negsuc n) = refl
quotient_is (negsuc m) (pos n) = refl
quotient_is (negsuc m) (negsuc n) = refl

pub remainder_is : (x y : ℤ) → int_rem x y ≡ cond (is_below_zero x) (neg_ℤ (pos (unsigned_abs x % unsigned_abs y))) (pos (unsigned_abs x % unsigned_abs y))
remainder_is (pos m) y = refl
remainder_is (negsuc m) y = refl

-- what the signs and the distances from 0 make
pub quotient_from : (w : ℕ) (x y : ℤ) (s t : Bool) (m n : ℕ) → s ≡ is_below_zero x → t ≡ is_below_zero y → m ≡ unsigned_abs x → n ≡ unsigned_abs y → bits_of_signed w (cond (not (beq s t)) (neg_ℤ (pos (m / n))) (pos (m / n))) ≡ bits_of_signed w (int_div x y)
quotient_from w x y s t m n a b c d = rw (a, b, c, d) (ap (bits_of_signed w) (sym (quotient_is x y)))

pub remainder_from : (w : ℕ) (x y : ℤ) (s : Bool) (m n : ℕ) → s ≡ is_below_zero x → m ≡ unsigned_abs x → n ≡ unsigned_abs y → bits_of_signed w (cond s (neg_ℤ (pos (m % n))) (pos (m % n))) ≡ bits_of_signed w (int_rem x y)
remainder_from w x y s m n a c d = rw (a, c, d) (ap (bits_of_signed w) (sym (remainder_is x y)))

-- the sign of a vector's number
pub sign_of_bits : (a : List Bit) → not (nat_lt (2 * number a) (2 ^ length a)) ≡ is_below_zero (signed_number a)
sign_of_bits a = sym (sign_of (number a) (2 ^ length a) (number-lt a))
