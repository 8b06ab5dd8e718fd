-- It serves inner contracts and proofs; no answer of the program is stated by it.
-- The digits in base 2 of what bitwise and shifting operators make.
use Rattle.std.proofs.Common.{◌≡◌, ℕ, zero, suc, ◌+◌, ◌-◌, ◌*◌, ◌/◌, ◌%◌, ◌^◌, ◌<◌, ◌≤◌, min, max, Bool, true, false, cond, not, ◌&&◌, ◌||◌, refl, ap, sym, ◌∙◌, arith}
use Rattle.std.proofs.lemmas.Nat.{shr-shr, shr_split}
use Rattle.std.specs.Prelude.{bit_and, bit_or, bit_xor, ◌==◌}
use Rattle.std.proofs.lemmas.Nat.Bits.{bit_at_lowest, bit_at-suc, bit_at-zero, bit_at_and, bit_at_or, bit_at_xor, bit_at_ones, bit_at-lt, bit_at_cat_low, bit_at_cat_high, bit_at_above}
use Rattle.rtl_bits.specs.Bits.{is_one_at}

-- whether exactly one of two is true
abbrev pub differ : Bool → Bool → Bool
differ true b = not b
differ false b = b

-- whether a digit is 1
abbrev one_test : ℕ → Bool
one_test n = n == 1

and_test : (a b : ℕ) → a < 2 → b < 2 → one_test (min a b) ≡ (one_test a && one_test b)
and_test zero zero _ _ = refl
and_test zero (suc zero) _ _ = refl
and_test (suc zero) zero _ _ = refl
and_test (suc zero) (suc zero) _ _ = refl
and_test zero (suc (suc b)) _ q = absurd (omega arith)
and_test (suc zero) (suc (suc b)) _ q = absurd (omega arith)
and_test (suc (suc a)) b p _ = absurd (omega arith)

or_test : (a b : ℕ) → a < 2 → b < 2 → one_test (max a b) ≡ (one_test a || one_test b)
or_test zero zero _ _ = refl
or_test zero (suc zero) _ _ = refl
or_test (suc zero) zero _ _ = refl
or_test (suc zero) (suc zero) _ _ = refl
or_test zero (suc (suc b)) _ q = absurd (omega arith)
or_test (suc zero) (suc (suc b)) _ q = absurd (omega arith)
or_test (suc (suc a)) b p _ = absurd (omega arith)

xor_test : (a b : ℕ) → a < 2 → b < 2 → one_test ((a + b) % 2) ≡ differ (one_test a) (one_test b)
xor_test zero zero _ _ = refl
xor_test zero (suc zero) _ _ = refl
xor_test (suc zero) zero _ _ = refl
xor_test (suc zero) (suc zero) _ _ = refl
xor_test zero (suc (suc b)) _ q = absurd (omega arith)
xor_test (suc zero) (suc (suc b)) _ q = absurd (omega arith)
xor_test (suc (suc a)) b p _ = absurd (omega arith)

pub one_at-zero : (i : ℕ) → is_one_at 0 i ≡ false
unfolding is_one_at
one_at-zero i = ap one_test (bit_at-zero i)

pub one_at-suc : (n i : ℕ) → is_one_at n (suc i) ≡ is_one_at (n / 2) i
unfolding is_one_at
one_at-suc n i = ap one_test (bit_at-suc n i)

pub one_at_and : (a b i : ℕ) → is_one_at (bit_and a b) i ≡ (is_one_at a i && is_one_at b i)
unfolding is_one_at
one_at_and a b i = ap one_test (bit_at_and a b i) ∙ and_test _ _ (bit_at-lt a i) (bit_at-lt b i)

pub one_at_or : (a b i : ℕ) → is_one_at (bit_or a b) i ≡ (is_one_at a i || is_one_at b i)
unfolding is_one_at
one_at_or a b i = ap one_test (bit_at_or a b i) ∙ or_test _ _ (bit_at-lt a i) (bit_at-lt b i)

pub one_at_xor : (a b i : ℕ) → is_one_at (bit_xor a b) i ≡ differ (is_one_at a i) (is_one_at b i)
unfolding is_one_at
one_at_xor a b i = ap one_test (bit_at_xor a b i) ∙ xor_test _ _ (bit_at-lt a i) (bit_at-lt b i)

-- the mask of w ones
pub one_at_ones : (w i : ℕ) → i < w → is_one_at (2 ^ w - 1) i ≡ true
unfolding is_one_at
one_at_ones w i h = ap one_test (bit_at_ones w i h)

pub one_at-shr : (n k i : ℕ) → is_one_at (n / 2 ^ k) i ≡ is_one_at n (k + i)
unfolding is_one_at
one_at-shr n k i = ap (λ m. one_test (m % 2)) (shr-shr n k i)

pub one_at_low : (a k b i : ℕ) → i < k → is_one_at (a * 2 ^ k + b) i ≡ is_one_at b i
unfolding is_one_at
one_at_low a k b i h = ap one_test (bit_at_cat_low a k b i h)

pub one_at_high : (a k b i : ℕ) → b < 2 ^ k → k ≤ i → is_one_at (a * 2 ^ k + b) i ≡ is_one_at a (i - k)
unfolding is_one_at
one_at_high a k b i below h = ap one_test (bit_at_cat_high a k b i below h)

pub one_at-mod : (n k i : ℕ) → i < k → is_one_at (n % 2 ^ k) i ≡ is_one_at n i
one_at-mod n k i h =
    sym (one_at_low (n / 2 ^ k) k (n % 2 ^ k) i h) ∙ ap (λ m. is_one_at m i) (shr_split n k)

-- no digit from k on
pub one_at_above : (n k i : ℕ) → n < 2 ^ k → k ≤ i → is_one_at n i ≡ false
unfolding is_one_at
one_at_above n k i below h = ap one_test (bit_at_above n k i below h)

lowest_test : (a : ℕ) → a < 2 → cond (one_test a) 1 0 ≡ a
lowest_test zero _ = refl
lowest_test (suc zero) _ = refl
lowest_test (suc (suc a)) p = absurd (omega arith)

-- the lowest digit as a number
pub lowest_of : (n : ℕ) → cond (is_one_at n 0) 1 0 ≡ n % 2
unfolding is_one_at
lowest_of n = rw bit_at_lowest (lowest_test (n % 2) (omega arith))
