-- Shifts by more places than a number has, and the highest bit of a literal.
use Rattle.std.specs.Prelude.{ℕ, zero, suc, ◌-◌, ◌*◌, ◌/◌, ◌^◌, ◌<◌, ◌≤◌, ℤ, pos, negsuc, ◌*ℤ◌, ◌≤ℤ◌, ◌<ℤ◌, neg_ℤ, nat_le, unsigned_abs, false, Err, FitsSigned}
use Rattle.std.specs.Int.{int_div_euclid, w64}
use Rattle.std.proofs.Common.{◌≡◌, sym, ap, refl, arith}
use Rattle.std.proofs.Math.Pow.{pow_mono}
use Rattle.std.proofs.Math.Nat.{le-mul_of_pos_right}
use Rattle.std.proofs.lemmas.Nat.{div_below}
use Rattle.std.proofs.lemmas.Int.{ints}
use Rattle.std.proofs.lemmas.Bool.Decides.{nat_tests}
use Rattle.rtl_tree.specs.declared.literal.Literal.{Literal}
use Rattle.rtl_const.specs.Constant.{literal, ranged, shifted_left}
use Rattle.rtl_const.specs.declared.fault.ConstFault.TheVariants.{Overflow}

-- a number above the range
pub above : (at m : ℕ) → 4294967295 < m → ranged at (pos m) ≡ Err (Overflow at)
above at m large = grind (arith, nat_tests)

-- a number below the range
pub below : (at m : ℕ) → 2147483648 < m → ranged at (neg_ℤ (pos m)) ≡ Err (Overflow at)
below at zero large = absurd (omega arith)
below at (suc m) large = grind (arith, nat_tests)

scaled : (at p : ℕ) (a : ℤ) → (a ≡ pos 0 → ⊥) → 8589934592 ≤ p → ranged at (a *ℤ pos p) ≡ Err (Overflow at)
scaled at p (pos zero) some large = absurd (some refl)
scaled at p (pos (suc k)) some large =
    above at (suc k * p) (omega (arith, le-mul_of_pos_right {m = suc k} p (omega arith)))
scaled at p (negsuc k) some large =
    below at (suc k * p) (omega (arith, le-mul_of_pos_right {m = suc k} p (omega arith)))

-- any number but 0 leaves the range where it is shifted by more than 32 places
pub shifted_far : (at : ℕ) (a b : ℤ) → (a ≡ pos 0 → ⊥) → pos 32 <ℤ b → shifted_left at a b ≡ Err (Overflow at)
shifted_far at a (pos n) some far = scaled at (2 ^ n) a some (pow_mono {i = 33} {j = n} (omega (arith, ints)))
shifted_far at a (negsuc n) some far = absurd (omega (arith, ints))

pub nothing_left : (a n : ℕ) → 63 ≤ n → a < 2 ^ 63 → a / 2 ^ n ≡ 0
nothing_left a n far fits =
    let large : 2 ^ 63 ≤ 2 ^ n = pow_mono {i = 63} {j = n} far in
    omega (arith, div_below a (2 ^ n) 1 (omega arith) (omega arith))

-- nothing is left of a number without 63 of its places or more
pub none_left : (a b : ℤ) → FitsSigned w64 a → pos 63 ≤ℤ b → pos 0 ≤ℤ a → pos 0 ≡ int_div_euclid a (pos (2 ^ unsigned_abs b))
none_left (pos a) (pos n) fits far sign = ap pos (sym (nothing_left a n (omega (arith, ints)) (omega (arith, ints))))
none_left (negsuc a) (pos n) fits far sign = absurd (omega (arith, ints))
none_left a (negsuc n) fits far sign = absurd (omega (arith, ints))

-- and of a negative one only the sign
pub sign_left : (a b : ℤ) → FitsSigned w64 a → pos 63 ≤ℤ b → a <ℤ pos 0 → negsuc 0 ≡ int_div_euclid a (pos (2 ^ unsigned_abs b))
sign_left (pos a) (pos n) fits far sign = absurd (omega (arith, ints))
sign_left (negsuc a) (pos n) fits far sign = ap negsuc (sym (nothing_left a n (omega (arith, ints)) (omega (arith, ints))))
sign_left a (negsuc n) fits far sign = absurd (omega (arith, ints))

-- a bit beyond the 128th is not set
pub unset : (val place : ℕ) → val < 2 ^ 128 → 128 ≤ place → nat_le (2 ^ place) val ≡ false
unset val place fits far =
    let large : 2 ^ 128 ≤ 2 ^ place = pow_mono {i = 128} {j = place} far in grind (arith, nat_tests)

pub literal_beyond : (at : ℕ) (l : Literal) → l.unk ≡ 0 → l.val < 2 ^ 128 → 128 ≤ l.width - 1 → ranged at (pos l.val) ≡ literal at l
literal_beyond at l known fits far = grind (arith, nat_tests, unset l.val (l.width - 1) fits far)
