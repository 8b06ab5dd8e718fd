-- Values that are the same.
use Rattle.std.proofs.Common.{◌≡◌, Bool, true, false, not, ◌&&◌, List, [], ◌∷◌, refl, sym, ap}
use Rattle.std.specs.Prelude.{◌↔◌, ◌≢◌, IsTrue}
use Rattle.std.proofs.lemmas.Bool.{and_from, and_parts, false≢true}
use Rattle.rtl_bits.specs.declared.Bit.{Bit}
use Rattle.rtl_bits.specs.declared.Bit.TheVariants.{Zero, One, X, Z}
use Rattle.rtl_bits.specs.Bits.{same_bit}
use Rattle.demo_told.specs.Same.{are_same}

bit_from : (a b : Bit) → same_bit a b ≡ true → a ≡ b
bit_from Zero Zero e = refl
bit_from One One e = refl
bit_from X X e = refl
bit_from Z Z e = refl
bit_from Zero One e = absurd (false≢true e)
bit_from Zero X e = absurd (false≢true e)
bit_from Zero Z e = absurd (false≢true e)
bit_from One Zero e = absurd (false≢true e)
bit_from One X e = absurd (false≢true e)
bit_from One Z e = absurd (false≢true e)
bit_from X Zero e = absurd (false≢true e)
bit_from X One e = absurd (false≢true e)
bit_from X Z e = absurd (false≢true e)
bit_from Z Zero e = absurd (false≢true e)
bit_from Z One e = absurd (false≢true e)
bit_from Z X e = absurd (false≢true e)

bit_to : (a : Bit) → same_bit a a ≡ true
bit_to Zero = refl
bit_to One = refl
bit_to X = refl
bit_to Z = refl

same_from : (a b : List Bit) → are_same a b ≡ true → a ≡ b
same_from [] [] e = refl
same_from [] (y ∷ b) e = absurd (false≢true e)
same_from (x ∷ a) [] e = absurd (false≢true e)
same_from (x ∷ a) (y ∷ b) e =
    let (first, others) = and_parts (same_bit x y) (are_same a b) e in
    let here = bit_from x y first in
    let later = same_from a b others in
    cc

same_to : (a : List Bit) → are_same a a ≡ true
same_to [] = refl
same_to (x ∷ a) = and_from (same_bit x x) (are_same a a) (bit_to x) (same_to a)

truth : (r s : Bool) → (r ≡ true → s ≡ true) → (s ≡ true → r ≡ true) → r ≡ s
truth true s from to = sym (from refl)
truth false true from to = to refl
truth false false from to = refl

-- a test that tells whether two values are the same
pub same_is : (r : Bool) (a b : List Bit) → (IsTrue r ↔ (a ≡ b)) → r ≡ are_same a b
same_is r a b is =
    truth r (are_same a b)
    (λ yes. let e = is.0 yes in cc (e, same_to a))
    (λ yes. is.1 (same_from a b yes))

-- two values that differ, and two that don't
pub differ_is : (a b : List Bit) → not (are_same a b) ≡ true → a ≢ b
differ_is a b is e =
    let same : are_same a b ≡ true = cc (e, same_to a) in
    false≢true (cc (is, same))

pub same_by : (a b : List Bit) → not (are_same a b) ≡ false → a ≡ b
same_by a b is = same_from a b (yes (are_same a b) is)
  where
    yes : (r : Bool) → not r ≡ false → r ≡ true
    yes true e = refl
    yes false e = absurd (cc)
