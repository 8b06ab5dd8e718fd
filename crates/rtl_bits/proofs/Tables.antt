-- Two functions of Bools are equal where all their cases compute alike.
use Rattle.std.proofs.Common.{◌≡◌, Bool, true, false, ◌&&◌, refl, ap, sym, ◌∙◌}
use Rattle.std.proofs.lemmas.Bool.{and_parts}
use Rattle.rtl_bits.specs.declared.Bit.{Bit}
use Rattle.rtl_bits.specs.declared.Bit.TheVariants.{Zero, One, X, Z}
use Rattle.rtl_bits.specs.Bit.{known_bit, is_one}
use Rattle.rtl_bits.specs.Bits.{same_bit}

pub same_from_bit : (x y : Bit) → same_bit x y ≡ true → x ≡ y
same_from_bit Zero Zero _ = refl
same_from_bit One One _ = refl
same_from_bit X X _ = refl
same_from_bit Z Z _ = refl
same_from_bit Zero One h = cc
same_from_bit Zero X h = cc
same_from_bit Zero Z h = cc
same_from_bit One Zero h = cc
same_from_bit One X h = cc
same_from_bit One Z h = cc
same_from_bit X Zero h = cc
same_from_bit X One h = cc
same_from_bit X Z h = cc
same_from_bit Z Zero h = cc
same_from_bit Z One h = cc
same_from_bit Z X h = cc

abbrev both : (Bool → Bool) → Bool
both p = p false && p true

at_each : (p : Bool → Bool) → both p ≡ true → (b : Bool) → p b ≡ true
at_each p h false = (and_parts _ _ h).0
at_each p h true = (and_parts _ _ h).1

-- whether two functions of two, or of four, Bools have the same bit in each case
abbrev agree2 : (f g : Bool → Bool → Bit) → Bool
agree2 f g = both (λ a. both (λ b. same_bit (f a b) (g a b)))

abbrev agree4 : (f g : Bool → Bool → Bool → Bool → Bit) → Bool
agree4 f g = both (λ a. both (λ b. agree2 (f a b) (g a b)))

pub table2 : (f g : Bool → Bool → Bit) → agree2 f g ≡ true → (a b : Bool) → f a b ≡ g a b
table2 f g h a b =
    same_from_bit _ _
    (at_each (λ b. same_bit (f a b) (g a b)) (at_each (λ a. both (λ b. same_bit (f a b) (g a b))) h a) b)

pub table4 : (f g : Bool → Bool → Bool → Bool → Bit) → agree4 f g ≡ true → (a b c d : Bool) → f a b c d ≡ g a b c d
table4 f g h a b =
    table2 (f a b) (g a b)
    (at_each (λ b. agree2 (f a b) (g a b)) (at_each (λ a. both (λ b. agree2 (f a b) (g a b))) h a) b)

pub table1 : (f g : Bool → Bit) → both (λ a. same_bit (f a) (g a)) ≡ true → (a : Bool) → f a ≡ g a
table1 f g h a = same_from_bit _ _ (at_each (λ a. same_bit (f a) (g a)) h a)

pub is_one-known_bit : (b : Bool) → is_one (known_bit b) ≡ b
is_one-known_bit true = refl
is_one-known_bit false = refl

-- the same for functions to a Bool
pub tests1 : (f g : Bool → Bool) → both (λ a. same_bit (known_bit (f a)) (known_bit (g a))) ≡ true → (a : Bool) → f a ≡ g a
tests1 f g h a =
    sym (is_one-known_bit (f a)) ∙ ap is_one (table1 (λ a. known_bit (f a)) (λ a. known_bit (g a)) h a)
    ∙ is_one-known_bit (g a)

pub tests4 : (f g : Bool → Bool → Bool → Bool → Bool) → agree4 (λ a b c d. known_bit (f a b c d)) (λ a b c d. known_bit (g a b c d)) ≡ true → (a b c d : Bool) → f a b c d ≡ g a b c d
tests4 f g h a b c d =
    sym (is_one-known_bit (f a b c d))
    ∙ ap is_one (table4 (λ a b c d. known_bit (f a b c d)) (λ a b c d. known_bit (g a b c d)) h a b c d)
    ∙ is_one-known_bit (g a b c d)

pub tests2 : (f g : Bool → Bool → Bool) → agree2 (λ a b. known_bit (f a b)) (λ a b. known_bit (g a b)) ≡ true → (a b : Bool) → f a b ≡ g a b
tests2 f g h a b =
    sym (is_one-known_bit (f a b)) ∙ ap is_one (table2 (λ a b. known_bit (f a b)) (λ a b. known_bit (g a b)) h a b)
    ∙ is_one-known_bit (g a b)
