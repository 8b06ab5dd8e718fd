-- What a bit may be, and what a list of bits may be, go through tables and lists.
use Rattle.std.proofs.Common.{◌≡◌, ◌∙◌, ℕ, zero, suc, Bool, true, false, not, ◌&&◌, ◌||◌, List, [], ◌∷◌, ◌++◌, length, map, take, drop, replicate, get_or, refl, sym, ap, subst, inl, inr, arith}
use Rattle.std.specs.List.{AllZip}
use Rattle.std.proofs.lemmas.Bool.{and_from, and_parts, cases_Bool, or_cases, or_left, or_parts, or_right, true≢false}
use Rattle.std.proofs.lemmas.List.Elements.{length_all_zip}
use Rattle.rtl_bits.specs.declared.Bit.{Bit}
use Rattle.rtl_bits.specs.declared.Bit.TheVariants.{Zero, One, X, Z}
use Rattle.rtl_bits.specs.Bit.{is_unknown}
use Rattle.rtl_bits.specs.Bits.{all_x, copies, has_unknown, same_bit, selected, zip_with}
use Rattle.rtl_bits.proofs.Tables.{same_from_bit}
use Rattle.event_covers.specs.Covers.{AllMayBe, MayBe}

-- ---- one bit

pub may_refl : (x : Bit) → MayBe x x
may_refl x known = refl

pub may_same : (x b : Bit) → x ≡ b → MayBe x b
may_same x b same known = same

pub may_trans : (x y z : Bit) → MayBe x y → MayBe y z → MayBe x z
may_trans x y z first second known =
    first known ∙ second (subst (λ b. is_unknown b ≡ false) (first known) known)

-- ---- tables, over all bits

abbrev may : Bit → Bit → Bool
may x b = is_unknown x || same_bit x b

same_itself : (x : Bit) → same_bit x x ≡ true
same_itself Zero = refl
same_itself One = refl
same_itself X = refl
same_itself Z = refl

may_test : (x b : Bit) → MayBe x b → may x b ≡ true
may_test x b is =
    elim (cases_Bool (is_unknown x)) [
      | inl unknown ↦ or_left (is_unknown x) (same_bit x b) unknown
      | inr known ↦ or_right (is_unknown x) (same_bit x b) (subst (λ c. same_bit x c ≡ true) (is known) (same_itself x))
    ]

test_may : (x b : Bit) → may x b ≡ true → MayBe x b
test_may x b test known =
    elim (or_cases (is_unknown x) (same_bit x b) test) [
      | inl unknown ↦ absurd (true≢false (sym unknown ∙ known))
      | inr same ↦ same_from_bit x b same
    ]

abbrev each : (Bit → Bool) → Bool
each p = p Zero && (p One && (p X && p Z))

at_bit : (p : Bit → Bool) → each p ≡ true → (b : Bit) → p b ≡ true
at_bit p h Zero = (and_parts (p Zero) _ h).0
at_bit p h One = (and_parts (p One) _ (and_parts (p Zero) _ h).1).0
at_bit p h X = (and_parts (p X) _ (and_parts (p One) _ (and_parts (p Zero) _ h).1).1).0
at_bit p h Z = (and_parts (p X) (p Z) (and_parts (p One) _ (and_parts (p Zero) _ h).1).1).1

implied : (p q : Bool) → (not p || q) ≡ true → p ≡ true → q ≡ true
implied true q h is = h
implied false q h is = absurd (true≢false (sym is))

-- whether a table keeps it
abbrev one_at : (Bit → Bit) → Bit → Bit → Bool
one_at f x b = not (may x b) || may (f x) (f b)

abbrev pub keeps_one : (Bit → Bit) → Bool
keeps_one f = each (λ x. each (one_at f x))

pub one_may : (f : Bit → Bit) → keeps_one f ≡ true → (x b : Bit) → MayBe x b → MayBe (f x) (f b)
one_may f keeps x b is =
    test_may (f x) (f b) (implied (may x b) (may (f x) (f b))
    (at_bit (one_at f x) (at_bit (λ x. each (one_at f x)) keeps x) b) (may_test x b is))

-- whether the bit of one table may be that of another, where the bits that it is of may be
abbrev two_at : (f g : Bit → Bit → Bit) → Bit → Bit → Bit → Bit → Bool
two_at f g x y b c = not (may x b && may y c) || may (f x y) (g b c)

abbrev from_two : (f g : Bit → Bit → Bit) → Bit → Bit → Bool
from_two f g x y = each (λ b. each (two_at f g x y b))

abbrev pub keeps_two : (f g : Bit → Bit → Bit) → Bool
keeps_two f g = each (λ x. each (from_two f g x))

pub two_may :
    (f g : Bit → Bit → Bit) → keeps_two f g ≡ true → (x y b c : Bit) → MayBe x b → MayBe y c → MayBe (f x y) (g b c)
two_may f g keeps x y b c left right =
    let here = at_bit (from_two f g x) (at_bit (λ x. each (from_two f g x)) keeps x) y in
    let there = at_bit (two_at f g x y b) (at_bit (λ b. each (two_at f g x y b)) here b) c in
    test_may (f x y) (g b c)
    (implied (may x b && may y c) (may (f x y) (g b c)) there
    (and_from (may x b) (may y c) (may_test x b left) (may_test y c right)))

-- ---- lists

pub all_refl : (a : List Bit) → AllMayBe a a
all_refl [] = tt
all_refl (x ∷ a) = (may_refl x, all_refl a)

pub all_equal : (a b : List Bit) → a ≡ b → AllMayBe a b
all_equal a b same = subst (AllMayBe a) same (all_refl a)

pub may_length : (a b : List Bit) → AllMayBe a b → length a ≡ length b
may_length a b is = length_all_zip MayBe a b is

-- known bits may be themselves alone
pub all_known : (a b : List Bit) → AllMayBe a b → has_unknown a ≡ false → a ≡ b
all_known [] [] is known = refl
all_known [] (y ∷ b) is known = absurd is
all_known (x ∷ a) [] is known = absurd is
all_known (x ∷ a) (y ∷ b) is known =
    let parts = or_parts (is_unknown x) (has_unknown a) known in
    ap (λ c. c ∷ a) (is.0 parts.0) ∙ ap (λ c. y ∷ c) (all_known a b is.1 parts.1)

-- x in every bit may be anything of that length
pub x_may : (n : ℕ) (b : List Bit) → length b ≡ n → AllMayBe (all_x n) b
x_may zero [] size = tt
x_may zero (y ∷ b) size = absurd (omega (arith, size))
x_may (suc n) [] size = absurd (omega (arith, size))
x_may (suc n) (y ∷ b) size =
    ((λ known. absurd (true≢false known)), x_may n b (omega (arith, size)))

pub map_may : (f : Bit → Bit) → keeps_one f ≡ true → (a b : List Bit) → AllMayBe a b → AllMayBe (map f a) (map f b)
map_may f keeps [] [] is = tt
map_may f keeps [] (y ∷ b) is = absurd is
map_may f keeps (x ∷ a) [] is = absurd is
map_may f keeps (x ∷ a) (y ∷ b) is = (one_may f keeps x y is.0, map_may f keeps a b is.1)

pub zip_may :
    (f g : Bit → Bit → Bit) → keeps_two f g ≡ true → (a b a' b' : List Bit) → AllMayBe a a' → AllMayBe b b' →
    AllMayBe (zip_with f a b) (zip_with g a' b')
zip_may f g keeps [] b [] b' left right = tt
zip_may f g keeps [] b (x' ∷ a') b' left right = absurd left
zip_may f g keeps (x ∷ a) b [] b' left right = absurd left
zip_may f g keeps (x ∷ a) [] (x' ∷ a') [] left right = tt
zip_may f g keeps (x ∷ a) [] (x' ∷ a') (y' ∷ b') left right = absurd right
zip_may f g keeps (x ∷ a) (y ∷ b) (x' ∷ a') [] left right = absurd right
zip_may f g keeps (x ∷ a) (y ∷ b) (x' ∷ a') (y' ∷ b') left right =
    (two_may f g keeps x y x' y' left.0 right.0, zip_may f g keeps a b a' b' left.1 right.1)

pub zip_append :
    {A B : Type 0} (R : A → B → Type 0) (a b : List A) (a' b' : List B) → AllZip R a a' → AllZip R b b' →
    AllZip R (a ++ b) (a' ++ b')
zip_append R [] b [] b' left right = right
zip_append R [] b (x' ∷ a') b' left right = absurd left
zip_append R (x ∷ a) b [] b' left right = absurd left
zip_append R (x ∷ a) b (x' ∷ a') b' left right = (left.0, zip_append R a b a' b' left.1 right)

pub append_may : (a b a' b' : List Bit) → AllMayBe a a' → AllMayBe b b' → AllMayBe (a ++ b) (a' ++ b')
append_may a b a' b' left right = zip_append MayBe a b a' b' left right

pub take_may : (n : ℕ) (a b : List Bit) → AllMayBe a b → AllMayBe (take n a) (take n b)
take_may zero a b is = tt
take_may (suc n) [] [] is = tt
take_may (suc n) [] (y ∷ b) is = absurd is
take_may (suc n) (x ∷ a) [] is = absurd is
take_may (suc n) (x ∷ a) (y ∷ b) is = (is.0, take_may n a b is.1)

pub drop_may : (n : ℕ) (a b : List Bit) → AllMayBe a b → AllMayBe (drop n a) (drop n b)
drop_may zero a b is = is
drop_may (suc n) [] [] is = tt
drop_may (suc n) [] (y ∷ b) is = absurd is
drop_may (suc n) (x ∷ a) [] is = absurd is
drop_may (suc n) (x ∷ a) (y ∷ b) is = drop_may n a b is.1

pub selected_may : (at width : ℕ) (a b : List Bit) → AllMayBe a b → AllMayBe (selected at width a) (selected at width b)
selected_may at width a b is = take_may width (drop at a) (drop at b) (drop_may at a b is)

pub replicate_may : (n : ℕ) (x b : Bit) → MayBe x b → AllMayBe (replicate n x) (replicate n b)
replicate_may zero x b is = tt
replicate_may (suc n) x b is = (is, replicate_may n x b is)

pub copies_may : (n : ℕ) (a b : List Bit) → AllMayBe a b → AllMayBe (copies n a) (copies n b)
copies_may zero a b is = tt
copies_may (suc n) a b is = append_may a (copies n a) b (copies n b) is (copies_may n a b is)

-- ---- by places

pub at_may : (a b : List Bit) → AllMayBe a b → (k : ℕ) → MayBe (get_or a k X) (get_or b k X)
at_may [] [] is k = may_refl X
at_may [] (y ∷ b) is k = absurd is
at_may (x ∷ a) [] is k = absurd is
at_may (x ∷ a) (y ∷ b) is zero = is.0
at_may (x ∷ a) (y ∷ b) is (suc k) = at_may a b is.1 k

pub each_may :
    (a b : List Bit) → length a ≡ length b → ((k : ℕ) → MayBe (get_or a k X) (get_or b k X)) → AllMayBe a b
each_may [] [] size is = tt
each_may [] (y ∷ b) size is = absurd (omega (arith, size))
each_may (x ∷ a) [] size is = absurd (omega (arith, size))
each_may (x ∷ a) (y ∷ b) size is =
    (is 0, each_may a b (omega (arith, size)) (λ k. is (suc k)))
