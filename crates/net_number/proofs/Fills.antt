-- Digits in place of x and z, from the digits that vectors store.
use Rattle.std.proofs.Common.{◌≡◌, ◌∙◌, ◌*◌, ◌^◌, ℕ, suc, Bool, false, cond, ◌||◌, List, [], ◌∷◌, length, map, get_or, refl, ap}
use Rattle.std.specs.Prelude.{bit_or, bit_xor, nat_lt, pos, ◌-ℤ◌}
use Rattle.std.proofs.lemmas.Bool.{or_from}
use Rattle.std.proofs.lemmas.List.{length-map}
use Rattle.rtl_bits.specs.declared.Bit.{Bit}
use Rattle.rtl_bits.specs.declared.Bit.TheVariants.{Zero, One, X, Z}
use Rattle.rtl_bits.specs.Bit.{is_one, is_unknown, known_bit}
use Rattle.rtl_bits.specs.Bits.{bits_of, has_unknown, is_one_at, number, tabulate}
use Rattle.rtl_bits.specs.Digits.{differ, one_at_or, one_at_xor}
use Rattle.rtl_bits.specs.Planes.{in_val}
use Rattle.rtl_flat.specs.Value.{index_number}
use Rattle.net_model.specs.declared.fill.Fill.{Fill}
use Rattle.net_model.specs.declared.fill.Fill.TheVariants as fill
use Rattle.net_model.specs.Numbers.{filled, filled_bit}

-- what is made of each bit
each : (g : Bit → Bit) (bits : List Bit) (made : ℕ → Bit) → ((at : ℕ) → made at ≡ g (get_or bits at Zero)) → tabulate (length bits) made ≡ map g bits
each g [] made is = refl
each g (b ∷ bits) made is =
    let first : made 0 ≡ g b = is 0 in
    let others : tabulate (length bits) (λ at. made (suc at)) ≡ map g bits
    = each g bits (λ at. made (suc at)) (λ at. is (suc at)) in
    rw (first, others)

without_ones : (b : Bit) → known_bit (differ (in_val b || is_unknown b) (is_unknown b)) ≡ filled_bit fill.Zero b
without_ones Zero = refl
without_ones One = refl
without_ones X = refl
without_ones Z = refl

with_ones : (b : Bit) → known_bit (in_val b || is_unknown b) ≡ filled_bit fill.One b
with_ones Zero = refl
with_ones One = refl
with_ones X = refl
with_ones Z = refl

module _ (v u : ℕ) (bits : List Bit) (val : (at : ℕ) → is_one_at v at ≡ in_val (get_or bits at Zero)) (unk : (at : ℕ) → is_one_at u at ≡ is_unknown (get_or bits at Zero)) where
  pub filled_zero : bits_of (length bits) (bit_xor (bit_or v u) u) ≡ filled fill.Zero bits
  filled_zero =
      each (filled_bit fill.Zero) bits _
      (λ at. ap known_bit (one_at_xor (bit_or v u) u at) ∙ ap (λ b. known_bit (differ b (is_one_at u at))) (one_at_or v u at) ∙ ap (λ b. known_bit (differ (b || is_one_at u at) (is_one_at u at))) (val at) ∙ ap (λ b. known_bit (differ (in_val (get_or bits at Zero) || b) b)) (unk at) ∙ without_ones (get_or bits at Zero))

  pub filled_one : bits_of (length bits) (bit_or v u) ≡ filled fill.One bits
  filled_one =
      each (filled_bit fill.One) bits _
      (λ at. ap known_bit (one_at_or v u at) ∙ ap (λ b. known_bit (b || is_one_at u at)) (val at) ∙ ap (λ b. known_bit (in_val (get_or bits at Zero) || b)) (unk at) ∙ with_ones (get_or bits at Zero))

-- ---- with 0 for each x and z

known_bit_of : (f : Fill) (b : Bit) → is_unknown (filled_bit f b) ≡ false
known_bit_of fill.Zero Zero = refl
known_bit_of fill.Zero One = refl
known_bit_of fill.Zero X = refl
known_bit_of fill.Zero Z = refl
known_bit_of fill.One Zero = refl
known_bit_of fill.One One = refl
known_bit_of fill.One X = refl
known_bit_of fill.One Z = refl

pub filled_known : (f : Fill) (bits : List Bit) → has_unknown (filled f bits) ≡ false
filled_known f [] = refl
filled_known f (b ∷ bits) =
    or_from (is_unknown (filled_bit f b)) (has_unknown (filled f bits)) (known_bit_of f b) (filled_known f bits)

same_one : (b : Bit) → is_one (filled_bit fill.Zero b) ≡ is_one b
same_one Zero = refl
same_one One = refl
same_one X = refl
same_one Z = refl

same_number : (bits : List Bit) → number (filled fill.Zero bits) ≡ number bits
same_number [] = refl
same_number (b ∷ bits) = rw (same_number bits, same_one b)

pub same_index : (signed : Bool) (bits : List Bit) → index_number signed (filled fill.Zero bits) ≡ index_number signed bits
same_index signed bits =
    let same = same_number bits in
    let long = length-map bits (filled_bit fill.Zero) in
    ap (λ n. cond signed (cond (nat_lt (2 * n) (2 ^ length (filled fill.Zero bits))) (pos n) (pos n -ℤ pos (2 ^ length (filled fill.Zero bits)))) (pos n)) same
    ∙ ap (λ w. cond signed (cond (nat_lt (2 * number bits) (2 ^ w)) (pos (number bits)) (pos (number bits) -ℤ pos (2 ^ w))) (pos (number bits))) long
