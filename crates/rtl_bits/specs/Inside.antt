-- It serves inner contracts and proofs; no answer of the program is stated by it.
-- The stored form is known from the bits.
use Rattle.std.proofs.Common.{◌≡◌, ℕ, zero, suc, ◌^◌, ◌<◌, Bool, true, false, length, refl, ap}
use Rattle.rtl_bits.specs.Bit.{is_unknown}
use Rattle.rtl_bits.specs.Bits.{tabulate, number_where}
use Rattle.rtl_bits.specs.Planes.{bit_of, in_val, bits_of_planes}
use Rattle.rtl_bits.specs.Back.{number_where_is}

pub length-tabulate : {A : Type 0} → (n : ℕ) (f : ℕ → A) → length (tabulate n f) ≡ n
length-tabulate zero f = refl
length-tabulate (suc n) f = ap suc (length-tabulate n (λ i. f (suc i)))

pub in_val-bit_of : (v u : Bool) → in_val (bit_of v u) ≡ v
in_val-bit_of true true = refl
in_val-bit_of true false = refl
in_val-bit_of false true = refl
in_val-bit_of false false = refl

pub is_unknown-bit_of : (v u : Bool) → is_unknown (bit_of v u) ≡ u
is_unknown-bit_of true true = refl
is_unknown-bit_of true false = refl
is_unknown-bit_of false true = refl
is_unknown-bit_of false false = refl

pub width_back : (w v u : ℕ) → length (bits_of_planes w v u) ≡ w
width_back w v u = length-tabulate w _

pub val_back : (w v u : ℕ) → v < 2 ^ w → number_where in_val (bits_of_planes w v u) ≡ v
val_back w v u h = number_where_is in_val w v _ h (λ i _. in_val-bit_of _ _)

pub unk_back : (w v u : ℕ) → u < 2 ^ w → number_where is_unknown (bits_of_planes w v u) ≡ u
unk_back w v u h = number_where_is is_unknown w u _ h (λ i _. is_unknown-bit_of _ _)
