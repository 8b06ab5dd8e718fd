-- For callers: the bits of a number and the number of bits undo each other.
use Rattle.std.proofs.Common.{◌≡◌, ℕ, zero, suc, ◌+◌, ◌*◌, ◌/◌, ◌%◌, ◌^◌, Bool, true, false, cond, ◌||◌, List, [], ◌∷◌, length, refl, ap, sym, ◌∙◌, arith}
use Rattle.std.specs.List.{list_any}
use Rattle.std.proofs.lemmas.Bool.{or_parts}
use Rattle.std.proofs.lemmas.Nat.{mod_below, pow_pos}
use Rattle.rtl_bits.specs.declared.Bit.{Bit}
use Rattle.rtl_bits.specs.declared.Bit.TheVariants.{Zero, One, X, Z}
use Rattle.rtl_bits.specs.Bit.{known_bit, is_one, is_unknown}
use Rattle.rtl_bits.specs.Bits.{tabulate, number, bits_of, has_unknown, is_one_at}
use Rattle.rtl_bits.specs.Digits.{one_at-mod, one_at-suc}
use Rattle.rtl_bits.specs.Back.{number_where_is}
use Rattle.rtl_bits.proofs.Lists.{tabulate-congr}
use Rattle.rtl_bits.proofs.Tables.{is_one-known_bit}
use Rattle.std.specs.Prelude.{◌==◌}
use Rattle.std.proofs.lemmas.Nat.Bits.{bit_at_lowest}

pub number-bits_of : (w n : ℕ) → number (bits_of w n) ≡ n % 2 ^ w
number-bits_of w n =
    number_where_is is_one w (n % 2 ^ w) (λ i. known_bit (is_one_at n i)) (mod_below n (2 ^ w) (pow_pos w))
    (λ i below. is_one-known_bit _ ∙ sym (one_at-mod n w i below))

known_any : (w : ℕ) (f : ℕ → Bool) → list_any is_unknown (tabulate w (λ i. known_bit (f i))) ≡ false
known_any zero f = refl
known_any (suc w) f = ap (λ b. b || list_any is_unknown (tabulate w (λ i. known_bit (f (suc i))))) (known (f 0)) ∙ known_any w (λ i. f (suc i))
  where
    known : (b : Bool) → is_unknown (known_bit b) ≡ false
    known true = refl
    known false = refl

pub has_unknown-bits_of : (w n : ℕ) → has_unknown (bits_of w n) ≡ false
has_unknown-bits_of w n = known_any w (is_one_at n)

-- the lowest digit of n * 2 + d, and the others
lowest : (b : Bool) (n : ℕ) → is_one_at (n * 2 + cond b 1 0) 0 ≡ b
unfolding is_one_at
lowest true n = ap (λ m. m == 1) (bit_at_lowest (n * 2 + 1) ∙ odd n)
  where
    odd : (n : ℕ) → (n * 2 + 1) % 2 ≡ 1
    odd n = omega arith
lowest false n = ap (λ m. m == 1) (bit_at_lowest (n * 2 + 0) ∙ even n)
  where
    even : (n : ℕ) → (n * 2 + 0) % 2 ≡ 0
    even n = omega arith

others : (b : Bool) (n i : ℕ) → is_one_at (n * 2 + cond b 1 0) (suc i) ≡ is_one_at n i
others b n i = one_at-suc (n * 2 + cond b 1 0) i ∙ ap (λ m. is_one_at m i) (half b n)
  where
    half : (b : Bool) (n : ℕ) → (n * 2 + cond b 1 0) / 2 ≡ n
    half true n = omega arith
    half false n = omega arith

known_is : (b : Bit) → is_unknown b ≡ false → known_bit (is_one b) ≡ b
known_is Zero h = refl
known_is One h = refl
known_is X h = cc
known_is Z h = cc

pub bits_of-number : (xs : List Bit) → has_unknown xs ≡ false → bits_of (length xs) (number xs) ≡ xs
bits_of-number [] h = refl
bits_of-number (x ∷ xs) h =
    let parts : (is_unknown x ≡ false) × (has_unknown xs ≡ false) = or_parts _ _ h in
    let first : known_bit (is_one_at (number (x ∷ xs)) 0) ≡ x = ap known_bit (lowest (is_one x) (number xs)) ∙ known_is x parts.0 in
    let rest : tabulate (length xs) (λ i. known_bit (is_one_at (number (x ∷ xs)) (suc i))) ≡ xs
    = tabulate-congr _ _ _ (λ i _. ap known_bit (others (is_one x) (number xs) i)) ∙ bits_of-number xs parts.1 in
    rw (first, rest)
