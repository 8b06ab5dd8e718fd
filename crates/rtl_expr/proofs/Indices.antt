-- Negative indices.
use Rattle.std.proofs.Common.{◌≡◌, ℕ, ◌+◌, ◌*◌, ◌^◌, true, false, not, List, length, None, refl, sym, inl, inr, arith}
use Rattle.std.specs.Prelude.{nat_lt, negsuc, pos, ◌-ℤ◌}
use Rattle.std.proofs.lemmas.Int.{ints}
use Rattle.std.proofs.lemmas.Bool.{cases_Bool, true≢false}
use Rattle.rtl_bits.specs.declared.Bit.{Bit}
use Rattle.rtl_bits.specs.Bits.{has_unknown, number}
use Rattle.rtl_bits.proofs.Numbers.{number-lt}
use Rattle.rtl_bits.proofs.Signs.{below_zero}
use Rattle.rtl_expr.specs.Places.{place_by, place_in}

below_all : (width low a : ℕ) → place_in width (negsuc a -ℤ pos low) ≡ None
below_all width low a =
    let less : negsuc a -ℤ pos low ≡ negsuc (a + low) = omega (arith, ints) in rw less refl

-- a negative index
pub negative_index : (width low : ℕ) (index : List Bit) → has_unknown index ≡ false → not (nat_lt (2 * number index) (2 ^ length index)) ≡ true → None ≡ place_by width low true index
negative_index width low index known negative =
    elim (cases_Bool (nat_lt (2 * number index) (2 ^ length index))) [
      | inl small ↦ absurd (true≢false (sym (rw small at negative)))
      | inr large ↦ rw (known, large, below_zero _ _ (number-lt index)) (sym (below_all width low _))
    ]
