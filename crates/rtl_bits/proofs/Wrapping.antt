-- Arithmetic at 128 bits, cut to a width.
use Rattle.std.proofs.Common.{◌≡◌, ℕ, ◌+◌, ◌-◌, ◌*◌, ◌%◌, ◌^◌, ◌<◌, ◌≤◌, ap, ◌∙◌, arith, zero, suc, zero-add}
use Rattle.std.proofs.lemmas.Nat.{pow-add, pow_pos}
use Rattle.rtl_bits.specs.Bit.{known_bit}
use Rattle.rtl_bits.specs.Bits.{bits_of, bits_of_signed}
use Rattle.rtl_bits.specs.Digits.{one_at-mod, one_at_low}
use Rattle.rtl_bits.proofs.Lists.{tabulate-congr}
use Rattle.std.specs.Prelude.{pos, neg_ℤ}

pub bits_of_wrapped : (w n : ℕ) → w ≤ 128 → bits_of w (n % 2 ^ 128) ≡ bits_of w n
bits_of_wrapped w n h =
    tabulate-congr w _ _ (λ i below. ap known_bit (one_at-mod n 128 i (omega arith)))

-- what is added at the width or above doesn't show
above : (w k n : ℕ) → bits_of w (k * 2 ^ w + n) ≡ bits_of w n
above w k n = tabulate-congr w _ _ (λ i below. ap known_bit (one_at_low k w n i below))

-- a larger modulus differs by a multiple
larger : (q b m n : ℕ) → n < b → m + ((q + 1) * b - n) ≡ q * b + (m + (b - n))
larger q b m n h = let e : (q + 1) * b ≡ q * b + b = omega arith in omega arith

power_split : (w : ℕ) → w ≤ 128 → 2 ^ 128 ≡ ((2 ^ (128 - w) - 1) + 1) * 2 ^ w
power_split w h =
    let whole : 128 ≡ (128 - w) + w = omega arith in
    let positive : 2 ^ (128 - w) ≡ (2 ^ (128 - w) - 1) + 1 = omega (arith, pow_pos (128 - w)) in
    ap (λ k. 2 ^ k) whole ∙ pow-add 2 (128 - w) w ∙ ap (λ k. k * 2 ^ w) positive

pub bits_of_wrapped_difference : (w m n : ℕ) → w ≤ 128 → n < 2 ^ w → bits_of w ((m + (2 ^ 128 - n)) % 2 ^ 128) ≡ bits_of w (m + (2 ^ w - n))
bits_of_wrapped_difference w m n h below =
    bits_of_wrapped w (m + (2 ^ 128 - n)) h
    ∙ ap (λ k. bits_of w (m + (k - n))) (power_split w h)
    ∙ ap (bits_of w) (larger (2 ^ (128 - w) - 1) (2 ^ w) m n below)
    ∙ above w (2 ^ (128 - w) - 1) (m + (2 ^ w - n))

whole : (b : ℕ) → 0 + (b - 0) ≡ 1 * b + 0
whole b = omega arith

-- the bits of a number's negative
pub negative_bits : (w n : ℕ) → w ≤ 128 → n < 2 ^ w → bits_of w ((0 + (2 ^ 128 - n)) % 2 ^ 128) ≡ bits_of_signed w (neg_ℤ (pos n))
negative_bits w zero h below =
    bits_of_wrapped_difference w 0 0 h below
    ∙ ap (bits_of w) (whole (2 ^ w)) ∙ above w 1 0
negative_bits w (suc n) h below =
    bits_of_wrapped_difference w 0 (suc n) h below ∙ ap (bits_of w) (zero-add (2 ^ w - suc n))
