-- The digits that a vector stores, from its bits.
use Rattle.std.proofs.Common.{ℕ, ◌≡◌, ◌∙◌, ◌<◌, ◌≤◌, ◌^◌, arith, Bool, false, List, length, get_or, sym, ap, inl, inr}
use Rattle.std.proofs.lemmas.Bool.{cases_lt}
use Rattle.std.proofs.lemmas.List.{get_or_past}
use Rattle.rtl_bits.specs.declared.Bit.{Bit}
use Rattle.rtl_bits.specs.declared.Bit.TheVariants.{Zero}
use Rattle.rtl_bits.specs.Bits.{is_one_at}
use Rattle.rtl_bits.specs.Planes.{bit_of, bits_of_planes}
use Rattle.rtl_bits.specs.Digits.{one_at_above}
use Rattle.rtl_bits.specs.Inside.{length-tabulate}
use Rattle.rtl_bits.proofs.Lists.{get_or-tabulate}

-- a plane whose digits tell what a test says of the bits
pub stored : (test : Bit → Bool) → test Zero ≡ false → (w v u n : ℕ) (xs : List Bit) → bits_of_planes w v u ≡ xs → n < 2 ^ w → ((i : ℕ) → test (bit_of (is_one_at v i) (is_one_at u i)) ≡ is_one_at n i) → (at : ℕ) → is_one_at n at ≡ test (get_or xs at Zero)
stored test none w v u n xs is fits tells at =
    elim (cases_lt at w) [
      | inl below ↦ sym (ap (λ ys. test (get_or ys at Zero)) (sym is) ∙ ap test (get_or-tabulate w (λ i. bit_of (is_one_at v i) (is_one_at u i)) at Zero below) ∙ tells at)
      | inr above ↦
          let long : length xs ≡ w = ap length (sym is) ∙ length-tabulate w (λ i. bit_of (is_one_at v i) (is_one_at u i)) in
          one_at_above n w at fits above ∙ sym (ap test (get_or_past xs at Zero (omega (arith, above, long))) ∙ none)
    ]
