-- Known bits that aren't negative, as exponents and below `$clog2`.
use Rattle.std.specs.Prelude.{ℕ, ◌*◌, ◌^◌, ◌≤◌, nat_lt, ℤ, pos, negsuc, int_le, ◌&&◌, not, cond, Bool, true, false, List, length, None, Some}
use Rattle.std.proofs.Common.{◌≡◌, ◌∙◌, ap, sym, refl, arith, inl, inr}
use Rattle.std.proofs.lemmas.Bool.{cases_Bool}
use Rattle.std.proofs.lemmas.Bool.Decides.{nat_tests}
use Rattle.rtl_bits.specs.declared.Bit.{Bit}
use Rattle.rtl_bits.specs.Bits.{all_x, bits_of, has_unknown, number, signed_number}
use Rattle.rtl_bits.proofs.Signs.{sign_of_bits}
use Rattle.rtl_const.specs.Constant.{clog2}
use Rattle.rtl_flat.specs.Value.{index_number}
use Rattle.elab_standard.specs.Worth.{is_exponent, logarithm_worth, whole_number}

abbrev is_below_zero : ℤ → Bool
is_below_zero (pos n) = false
is_below_zero (negsuc n) = true

none_below : (n : ℕ) → int_le (pos 0) (pos n) ≡ true
none_below n = grind (arith, nat_tests)

below_zero : (z : ℤ) → int_le (pos 0) z ≡ not (is_below_zero z)
below_zero (pos n) = none_below n
below_zero (negsuc n) = refl

twice_not : (b : Bool) → not (not b) ≡ b
twice_not true = refl
twice_not false = refl

pub signed_natural : (b : List Bit) → not (not (nat_lt (2 * number b) (2 ^ length b))) ≡ int_le (pos 0) (signed_number b)
signed_natural b = ap not (sign_of_bits b) ∙ sym (below_zero (signed_number b))

-- bits that aren't negative spell their number
pub natural_is : (signed : Bool) (b : List Bit) → int_le (pos 0) (index_number signed b) ≡ true → index_number signed b ≡ pos (number b)
natural_is false b h = refl
natural_is true b h =
    let inside : nat_lt (2 * number b) (2 ^ length b) ≡ true = sym (twice_not (nat_lt (2 * number b) (2 ^ length b))) ∙ signed_natural b ∙ h in
    rw inside refl

pub no_exponent : (signed : Bool) (b : List Bit) → int_le (pos 0) (index_number signed b) ≡ false → false ≡ is_exponent (index_number signed b)
no_exponent signed b h = rw h refl

pub some_exponent : (signed : Bool) (b : List Bit) → int_le (pos 0) (index_number signed b) ≡ true → int_le (pos (number b)) (pos 4294967295) ≡ is_exponent (index_number signed b)
some_exponent signed b h =
    sym (ap (λ one. one && int_le (index_number signed b) (pos 4294967295)) h ∙ ap (λ z. int_le z (pos 4294967295)) (natural_is signed b h))

pub unknown_logarithm : (signed : Bool) (b : List Bit) → has_unknown b ≡ true → all_x 32 ≡ logarithm_worth (whole_number signed b)
unknown_logarithm signed b h = rw h refl

below_none : (z : ℤ) → int_le (pos 0) z ≡ false → all_x 32 ≡ logarithm_worth (Some z)
below_none (pos n) h = let other = none_below n in absurd cc
below_none (negsuc n) h = refl

pub no_logarithm : (signed : Bool) (b : List Bit) → has_unknown b ≡ false → int_le (pos 0) (index_number signed b) ≡ false → all_x 32 ≡ logarithm_worth (whole_number signed b)
no_logarithm signed b known h = rw known (below_none (index_number signed b) h)

pub some_logarithm : (signed : Bool) (b : List Bit) → has_unknown b ≡ false → int_le (pos 0) (index_number signed b) ≡ true → bits_of 32 (clog2 (number b)) ≡ logarithm_worth (whole_number signed b)
some_logarithm signed b known h =
    rw known (ap (λ z. logarithm_worth (Some z)) (sym (natural_is signed b h)))

pub unknown_is : (known unknown : Bool) → known ≡ not unknown → known ≡ false → unknown ≡ true
unknown_is known true is h = refl
unknown_is known false is h = absurd cc

pub known_is : (known unknown : Bool) → known ≡ not unknown → known ≡ true → unknown ≡ false
known_is known true is h = absurd cc
known_is known false is h = refl
