-- Values without x and z.
use Rattle.std.proofs.Common.{◌≡◌, ℕ, zero, suc, Bool, true, false, List, [], ◌∷◌, map, refl, ap, ◌∙◌}
use Rattle.std.specs.Prelude.{◌||◌, replicate}
use Rattle.rtl_bits.specs.declared.Bit.{Bit}
use Rattle.rtl_bits.specs.declared.Bit.TheVariants.{Zero, One, X, Z}
use Rattle.rtl_bits.specs.Bit.{is_unknown, known_bit, not_bit}
use Rattle.rtl_bits.specs.Bits.{bits_of, has_unknown, is_one_at, tabulate}

known_or : (bit : Bool) (rest : Bool) → rest ≡ false → (is_unknown (known_bit bit) || rest) ≡ false
known_or true rest e = e
known_or false rest e = e

known_tabulated : (n : ℕ) (f : ℕ → Bool) → has_unknown (tabulate n (λ i. known_bit (f i))) ≡ false
known_tabulated zero f = refl
known_tabulated (suc n) f = known_or (f 0) _ (known_tabulated n (λ i. f (suc i)))

pub known_bits : (width n : ℕ) → has_unknown (bits_of width n) ≡ false
known_bits width n = known_tabulated width (λ i. is_one_at n i)

pub known_copies : (n : ℕ) (bit : Bit) → is_unknown bit ≡ false → has_unknown (replicate n bit) ≡ false
known_copies zero bit e = refl
known_copies (suc n) Zero e = known_copies n Zero e
known_copies (suc n) One e = known_copies n One e
known_copies (suc n) X e = absurd (cc)
known_copies (suc n) Z e = absurd (cc)

pub known_complement : (bits : List Bit) → has_unknown bits ≡ false → has_unknown (map not_bit bits) ≡ false
known_complement [] e = refl
known_complement (Zero ∷ bits) e = known_complement bits e
known_complement (One ∷ bits) e = known_complement bits e
known_complement (X ∷ bits) e = absurd (cc)
known_complement (Z ∷ bits) e = absurd (cc)

pub known_filled : (width : ℕ) (given bit : Bit) (bits : List Bit) → bits ≡ replicate width given → given ≡ bit → is_unknown bit ≡ false → has_unknown bits ≡ false
known_filled width given bit bits e same known =
    ap has_unknown e ∙ ap (λ b. has_unknown (replicate width b)) same ∙ known_copies width bit known
