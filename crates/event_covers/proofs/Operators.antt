-- Each operator keeps what may be, but for `===` and `!==`.
use Rattle.std.proofs.Common.{◌≡◌, ◌∙◌, ◌+◌, ◌-◌, ◌*◌, ◌/◌, ◌%◌, ◌^◌, ◌==◌, int_div, int_rem, ℕ, ℤ, pos, negsuc, Bool, true, false, cond, ◌||◌, List, [], ◌∷◌, ◌++◌, length, take, drop, replicate, get_or, refl, sym, ap, subst, inl, inr, arith}
use Rattle.std.specs.Prelude.{◌-ℤ◌}
use Rattle.std.specs.List.{list_any}
use Rattle.std.proofs.lemmas.Bool.{cases_Bool, cond-false, cond-true, and_cases, and_left, and_right, or_cases, or_left, or_parts, or_right, true≢false}
use Rattle.rtl_bits.specs.declared.Bit.{Bit}
use Rattle.rtl_bits.specs.declared.Bit.TheVariants.{Zero, One, X, Z}
use Rattle.rtl_bits.specs.Bit.{and_bit, is_one, is_unknown, merge_bit, not_bit, or_bit, xor_bit}
use Rattle.rtl_bits.specs.Bits.{all_with, all_x, arithmetic, bits_of_signed, division, equal_bit, extended, has_unknown, less_bit, may_equal, number, reduced, shifted_left, shifted_right, signed_division, signed_number, top_bit, truth_bit, zip_with}
use Rattle.rtl_flat.specs.declared.expr.Turn.{Turn}
use Rattle.rtl_flat.specs.declared.expr.Turn.TheVariants.{Plus, Minus, Complement}
use Rattle.rtl_flat.specs.declared.expr.Join.{Join}
use Rattle.rtl_flat.specs.declared.expr.Join.TheVariants as join
use Rattle.rtl_flat.specs.declared.expr.Compare.{Compare}
use Rattle.rtl_flat.specs.declared.expr.Compare.TheVariants as compare
use Rattle.rtl_flat.specs.declared.expr.Link.{Link}
use Rattle.rtl_flat.specs.declared.expr.Link.TheVariants as link
use Rattle.rtl_flat.specs.declared.expr.Fold.{Fold}
use Rattle.rtl_flat.specs.declared.expr.Fold.TheVariants as fold
use Rattle.rtl_flat.specs.declared.expr.Shift.{Shift}
use Rattle.rtl_flat.specs.declared.expr.Shift.TheVariants as shift
use Rattle.rtl_flat.specs.Value.{bit_at, bit_by, chosen, compared, folded, index_number, joined, linked, shifted, turned}
use Rattle.event_covers.specs.Covers.{AllMayBe, IsPlainCompare, MayBe}
use Rattle.event_covers.proofs.MayBe.{all_equal, all_known, append_may, at_may, drop_may, keeps_two, map_may, may_length, may_refl, may_same, one_may, replicate_may, take_may, two_may, x_may, zip_may}

-- ---- operators that give x in every bit where one bit is unknown

strict_one :
    (f : List Bit → List Bit) (n : ℕ) (a a' : List Bit) → (has_unknown a ≡ true → f a ≡ all_x n) → length (f a') ≡ n →
    AllMayBe a a' → AllMayBe (f a) (f a')
strict_one f n a a' unknown size is =
    elim (cases_Bool (has_unknown a)) [
      | inl some ↦ subst (λ c. AllMayBe c (f a')) (sym (unknown some)) (x_may n (f a') size)
      | inr none ↦ all_equal (f a) (f a') (ap f (all_known a a' is none))
    ]

-- an operator on two operands of known bits has the same ones on both sides
same_operands :
    {A : Type 0} (f : List Bit → List Bit → A) (a b a' b' : List Bit) → AllMayBe a a' → AllMayBe b b' →
    (has_unknown a || has_unknown b) ≡ false → f a b ≡ f a' b'
same_operands f a b a' b' left right none =
    let parts = or_parts (has_unknown a) (has_unknown b) none in
    ap (λ x. f x b) (all_known a a' left parts.0) ∙ ap (f a') (all_known b b' right parts.1)

strict_two :
    (f : List Bit → List Bit → List Bit) (n : ℕ) (a b a' b' : List Bit) →
    ((has_unknown a || has_unknown b) ≡ true → f a b ≡ all_x n) →
    length (f a' b') ≡ n → AllMayBe a a' → AllMayBe b b' → AllMayBe (f a b) (f a' b')
strict_two f n a b a' b' unknown size left right =
    elim (cases_Bool (has_unknown a || has_unknown b)) [
      | inl some ↦ subst (λ c. AllMayBe c (f a' b')) (sym (unknown some)) (x_may n (f a' b') size)
      | inr none ↦ all_equal (f a b) (f a' b') (same_operands f a b a' b' left right none)
    ]

strict_bit :
    (f : List Bit → List Bit → Bit) (a b a' b' : List Bit) →
    ((has_unknown a || has_unknown b) ≡ true → is_unknown (f a b) ≡ true) →
    AllMayBe a a' → AllMayBe b b' → MayBe (f a b) (f a' b')
strict_bit f a b a' b' unknown left right known =
    elim (cases_Bool (has_unknown a || has_unknown b)) [
      | inl some ↦ absurd (true≢false (sym (unknown some) ∙ known))
      | inr none ↦ same_operands f a b a' b' left right none
    ]

-- ---- arithmetic and bitwise operators

pub turned_may :
    (operator : Turn) (a a' : List Bit) → length (turned operator a') ≡ length a → AllMayBe a a' →
    AllMayBe (turned operator a) (turned operator a')
turned_may Plus a a' size is =
    strict_one (turned Plus) (length a) a a' (λ some. cond-true (has_unknown a) _ _ some) size is
turned_may Minus a a' size is =
    strict_one (turned Minus) (length a) a a' (λ some. cond-true (has_unknown a) _ _ some) size is
turned_may Complement a a' size is = map_may not_bit refl a a' is

arithmetic_x :
    (f : ℕ → ℕ → ℕ) (a b : List Bit) → (has_unknown a || has_unknown b) ≡ true → arithmetic f a b ≡ all_x (length a)
arithmetic_x f a b some = cond-true (has_unknown a || has_unknown b) _ _ some

either_x : (c : Bool) (x y z : List Bit) → x ≡ z → y ≡ z → cond c x y ≡ z
either_x true x y z left right = left
either_x false x y z left right = right

divided_x :
    (signed : Bool) (f : ℤ → ℤ → ℤ) (g : ℕ → ℕ → ℕ) (a b : List Bit) → (has_unknown a || has_unknown b) ≡ true →
    cond signed (signed_division f a b) (division g a b) ≡ all_x (length a)
divided_x signed f g a b some =
    either_x signed (signed_division f a b) (division g a b) (all_x (length a))
    (cond-true (has_unknown a || has_unknown b || (number b == 0)) (all_x (length a))
    (bits_of_signed (length a) (f (signed_number a) (signed_number b)))
    (or_left (has_unknown a || has_unknown b) (number b == 0) some))
    (either_x (number b == 0) (all_x (length a)) (arithmetic g a b) (all_x (length a)) refl (arithmetic_x g a b some))

pub joined_may :
    (operator : Join) (signed : Bool) (a b a' b' : List Bit) → length (joined operator signed a' b') ≡ length a →
    AllMayBe a a' → AllMayBe b b' → AllMayBe (joined operator signed a b) (joined operator signed a' b')
joined_may join.Add signed a b a' b' size left right =
    strict_two (joined join.Add signed) (length a) a b a' b' (arithmetic_x (λ m n. m + n) a b) size left right
joined_may join.Subtract signed a b a' b' size left right =
    strict_two (joined join.Subtract signed) (length a) a b a' b'
    (arithmetic_x (λ m n. m + (2 ^ length a - n)) a b) size left right
joined_may join.Multiply signed a b a' b' size left right =
    strict_two (joined join.Multiply signed) (length a) a b a' b' (arithmetic_x (λ m n. m * n) a b) size left right
joined_may join.Divide signed a b a' b' size left right =
    strict_two (joined join.Divide signed) (length a) a b a' b' (divided_x signed int_div (λ m n. m / n) a b) size left right
joined_may join.Remainder signed a b a' b' size left right =
    strict_two (joined join.Remainder signed) (length a) a b a' b' (divided_x signed int_rem (λ m n. m % n) a b) size left right
joined_may join.And signed a b a' b' size left right = zip_may and_bit and_bit refl a b a' b' left right
joined_may join.Or signed a b a' b' size left right = zip_may or_bit or_bit refl a b a' b' left right
joined_may join.Xor signed a b a' b' size left right = zip_may xor_bit xor_bit refl a b a' b' left right
joined_may join.Xnor signed a b a' b' size left right =
    map_may not_bit refl (zip_with xor_bit a b) (zip_with xor_bit a' b') (zip_may xor_bit xor_bit refl a b a' b' left right)

-- ---- relations and equalities

-- two known bits that differ do so on both sides
abbrev difference : Bit → Bit → Bit
difference x y = cond (may_equal x y) X Zero

decided : (b c : Bool) → MayBe (cond b X Zero) (cond c X Zero) → b ≡ false → c ≡ false
decided true c is differ = absurd (true≢false differ)
decided false true is differ = absurd (let e : Zero ≡ X = is refl in cc)
decided false false is differ = refl

bits_differ :
    (x y x' y' : Bit) → MayBe x x' → MayBe y y' → may_equal x y ≡ false → may_equal x' y' ≡ false
bits_differ x y x' y' left right differ =
    decided (may_equal x y) (may_equal x' y') (two_may difference difference refl x y x' y' left right) differ

still_differ :
    (a b a' b' : List Bit) → AllMayBe a a' → AllMayBe b b' → all_with may_equal a b ≡ false → all_with may_equal a' b' ≡ false
still_differ [] b a' b' left right differ = absurd (true≢false differ)
still_differ (x ∷ a) b [] b' left right differ = absurd left
still_differ (x ∷ a) [] (x' ∷ a') b' left right differ = absurd (true≢false differ)
still_differ (x ∷ a) (y ∷ b) (x' ∷ a') [] left right differ = absurd right
still_differ (x ∷ a) (y ∷ b) (x' ∷ a') (y' ∷ b') left right differ =
    elim (and_cases (may_equal x y) (all_with may_equal a b) differ) [
      | inl here ↦ and_left (may_equal x' y') (all_with may_equal a' b') (bits_differ x y x' y' left.0 right.0 here)
      | inr there ↦ and_right (may_equal x' y') (all_with may_equal a' b') (still_differ a b a' b' left.1 right.1 there)
    ]

equal_may : (a b a' b' : List Bit) → AllMayBe a a' → AllMayBe b b' → MayBe (equal_bit a b) (equal_bit a' b')
equal_may a b a' b' left right =
    elim (cases_Bool (all_with may_equal a b)) [
      | inl equal ↦
          strict_bit equal_bit a b a' b' (λ some. ap is_unknown (cond-true (all_with may_equal a b) _ _ equal
          ∙ cond-true (has_unknown a || has_unknown b) X One some)) left right
      | inr differ ↦
          may_same (equal_bit a b) (equal_bit a' b') (cond-false (all_with may_equal a b) _ Zero differ
          ∙ sym (cond-false (all_with may_equal a' b') _ Zero (still_differ a b a' b' left right differ)))
    ]

less_may :
    (signed : Bool) (a b a' b' : List Bit) → AllMayBe a a' → AllMayBe b b' → MayBe (less_bit signed a b) (less_bit signed a' b')
less_may signed a b a' b' left right =
    strict_bit (less_bit signed) a b a' b'
    (λ some. ap is_unknown (cond-true (has_unknown a || has_unknown b) X _ some)) left right

pub compared_may :
    (operator : Compare) (signed : Bool) (a b a' b' : List Bit) → IsPlainCompare operator → AllMayBe a a' → AllMayBe b b' →
    MayBe (compared operator signed a b) (compared operator signed a' b')
compared_may compare.Equal signed a b a' b' plain left right = equal_may a b a' b' left right
compared_may compare.NotEqual signed a b a' b' plain left right =
    one_may not_bit refl (equal_bit a b) (equal_bit a' b') (equal_may a b a' b' left right)
compared_may compare.CaseEqual signed a b a' b' plain left right = absurd plain
compared_may compare.CaseNotEqual signed a b a' b' plain left right = absurd plain
compared_may compare.Less signed a b a' b' plain left right = less_may signed a b a' b' left right
compared_may compare.LessOrEqual signed a b a' b' plain left right =
    one_may not_bit refl (less_bit signed b a) (less_bit signed b' a') (less_may signed b a b' a' right left)
compared_may compare.Greater signed a b a' b' plain left right = less_may signed b a b' a' right left
compared_may compare.GreaterOrEqual signed a b a' b' plain left right =
    one_may not_bit refl (less_bit signed a b) (less_bit signed a' b') (less_may signed a b a' b' left right)

-- ---- logical operators and reductions

bit_stays : (x b : Bit) → MayBe x b → is_one x ≡ true → is_one b ≡ true
bit_stays Zero b is one = absurd (true≢false (sym one))
bit_stays One b is one = ap is_one (sym (is refl))
bit_stays X b is one = absurd (true≢false (sym one))
bit_stays Z b is one = absurd (true≢false (sym one))

one_stays : (a b : List Bit) → AllMayBe a b → list_any is_one a ≡ true → list_any is_one b ≡ true
one_stays [] b is one = absurd (true≢false (sym one))
one_stays (x ∷ a) [] is one = absurd is
one_stays (x ∷ a) (y ∷ b) is one =
    elim (or_cases (is_one x) (list_any is_one a) one) [
      | inl here ↦ or_left (is_one y) (list_any is_one b) (bit_stays x y is.0 here)
      | inr there ↦ or_right (is_one y) (list_any is_one b) (one_stays a b is.1 there)
    ]

pub truth_may : (a b : List Bit) → AllMayBe a b → MayBe (truth_bit a) (truth_bit b)
truth_may a b is known =
    elim (cases_Bool (list_any is_one a)) [
      | inl one ↦
          cond-true (list_any is_one a) One _ one ∙ sym (cond-true (list_any is_one b) One _ (one_stays a b is one))
      | inr none ↦
          elim (cases_Bool (has_unknown a)) [
            | inl some ↦
                let is_x : truth_bit a ≡ X = cond-false (list_any is_one a) One _ none ∙ cond-true (has_unknown a) X Zero some in
                absurd (true≢false (sym (ap is_unknown is_x) ∙ known))
            | inr all ↦ ap truth_bit (all_known a b is all)
          ]
    ]

pub linked_may :
    (operator : Link) (a b a' b' : List Bit) → AllMayBe a a' → AllMayBe b b' → MayBe (linked operator a b) (linked operator a' b')
linked_may link.And a b a' b' left right =
    two_may and_bit and_bit refl (truth_bit a) (truth_bit b) (truth_bit a') (truth_bit b') (truth_may a a' left)
    (truth_may b b' right)
linked_may link.Or a b a' b' left right =
    two_may or_bit or_bit refl (truth_bit a) (truth_bit b) (truth_bit a') (truth_bit b') (truth_may a a' left)
    (truth_may b b' right)

reduced_may :
    (f : Bit → Bit → Bit) → keeps_two f f ≡ true → (start : Bit) (a b : List Bit) → AllMayBe a b →
    MayBe (reduced f start a) (reduced f start b)
reduced_may f keeps start [] [] is = may_refl start
reduced_may f keeps start [] (y ∷ b) is = absurd is
reduced_may f keeps start (x ∷ a) [] is = absurd is
reduced_may f keeps start (x ∷ a) (y ∷ b) is =
    two_may f f keeps x (reduced f start a) y (reduced f start b) is.0 (reduced_may f keeps start a b is.1)

not_may : (x b : Bit) → MayBe x b → MayBe (not_bit x) (not_bit b)
not_may x b is = one_may not_bit refl x b is

pub folded_may : (operator : Fold) (a b : List Bit) → AllMayBe a b → MayBe (folded operator a) (folded operator b)
folded_may fold.Negation a b is = not_may (truth_bit a) (truth_bit b) (truth_may a b is)
folded_may fold.And a b is = reduced_may and_bit refl One a b is
folded_may fold.Nand a b is = not_may (reduced and_bit One a) (reduced and_bit One b) (reduced_may and_bit refl One a b is)
folded_may fold.Or a b is = reduced_may or_bit refl Zero a b is
folded_may fold.Nor a b is = not_may (reduced or_bit Zero a) (reduced or_bit Zero b) (reduced_may or_bit refl Zero a b is)
folded_may fold.Xor a b is = reduced_may xor_bit refl Zero a b is
folded_may fold.Xnor a b is = not_may (reduced xor_bit Zero a) (reduced xor_bit Zero b) (reduced_may xor_bit refl Zero a b is)

-- ---- shifts and extension

top_may : (a b : List Bit) → AllMayBe a b → MayBe (top_bit a) (top_bit b)
top_may a b is =
    subst (λ n. MayBe (top_bit a) (get_or b (n - 1) X)) (may_length a b is) (at_may a b is (length a - 1))

fill_may : (signed : Bool) (a b : List Bit) → AllMayBe a b → MayBe (cond signed (top_bit a) Zero) (cond signed (top_bit b) Zero)
fill_may true a b is = top_may a b is
fill_may false a b is = may_refl Zero

past_may : (c : Bool) (x y x' y' : List Bit) → c ≡ false → AllMayBe y y' → AllMayBe (cond c x y) (cond c x' y')
past_may true x y x' y' none is = absurd (true≢false none)
past_may false x y x' y' none is = is

cut_may : (a b x y : List Bit) → AllMayBe a b → AllMayBe x y → AllMayBe (take (length a) x) (take (length b) y)
cut_may a b x y is both =
    subst (λ n. AllMayBe (take (length a) x) (take n y)) (may_length a b is) (take_may (length a) x y both)

-- an amount with an unknown bit gives x in every bit, and any other is the same on both sides
by_amount :
    (f g : List Bit → List Bit) (n : ℕ) (by by' : List Bit) → (has_unknown by ≡ true → f by ≡ all_x n) → length (g by') ≡ n →
    (has_unknown by ≡ false → AllMayBe (f by) (g by)) → AllMayBe by by' → AllMayBe (f by) (g by')
by_amount f g n by by' unknown size known is =
    elim (cases_Bool (has_unknown by)) [
      | inl some ↦ subst (λ c. AllMayBe c (g by')) (sym (unknown some)) (x_may n (g by') size)
      | inr none ↦ subst (λ c. AllMayBe (f by) (g c)) (all_known by by' is none) (known none)
    ]

left_may :
    (a by a' by' : List Bit) → length (shifted_left a' by') ≡ length a → AllMayBe a a' → AllMayBe by by' →
    AllMayBe (shifted_left a by) (shifted_left a' by')
left_may a by a' by' size is amount =
    by_amount (shifted_left a) (shifted_left a') (length a) by by' (λ some. cond-true (has_unknown by) _ _ some) size same amount
  where
    same : has_unknown by ≡ false → AllMayBe (shifted_left a by) (shifted_left a' by)
    same none =
        let zeros = replicate (number by) Zero in
        past_may (has_unknown by) _ _ _ _ none
        (cut_may a a' (zeros ++ a) (zeros ++ a') is
        (append_may zeros a zeros a' (replicate_may (number by) Zero Zero (may_refl Zero)) is))

right_may :
    (fill fill' : Bit) (a by a' by' : List Bit) → length (shifted_right fill' a' by') ≡ length a → MayBe fill fill' →
    AllMayBe a a' → AllMayBe by by' →
    AllMayBe (shifted_right fill a by) (shifted_right fill' a' by')
right_may fill fill' a by a' by' size new is amount =
    by_amount (shifted_right fill a) (shifted_right fill' a') (length a) by by'
    (λ some. cond-true (has_unknown by) _ _ some) size same amount
  where
    same : has_unknown by ≡ false → AllMayBe (shifted_right fill a by) (shifted_right fill' a' by)
    same none =
        let n = number by in
        past_may (has_unknown by) _ _ _ _ none
        (cut_may a a' (drop n a ++ replicate n fill) (drop n a' ++ replicate n fill') is
        (append_may (drop n a) (replicate n fill) (drop n a') (replicate n fill') (drop_may n a a' is)
        (replicate_may n fill fill' new)))

pub shifted_may :
    (operator : Shift) (signed : Bool) (a by a' by' : List Bit) → length (shifted operator signed a' by') ≡ length a →
    AllMayBe a a' → AllMayBe by by' → AllMayBe (shifted operator signed a by) (shifted operator signed a' by')
shifted_may shift.Left signed a by a' by' size is amount = left_may a by a' by' size is amount
shifted_may shift.Right signed a by a' by' size is amount =
    right_may Zero Zero a by a' by' size (may_refl Zero) is amount
shifted_may shift.ArithmeticRight signed a by a' by' size is amount =
    right_may (cond signed (top_bit a) Zero) (cond signed (top_bit a') Zero) a by a' by' size (fill_may signed a a' is) is amount

pub extended_may :
    (width : ℕ) (signed : Bool) (a b : List Bit) → AllMayBe a b → AllMayBe (extended width signed a) (extended width signed b)
extended_may width signed a b is =
    let old = cond signed (top_bit a) Zero in
    let new = cond signed (top_bit b) Zero in
    append_may (take width a) (replicate (width - length a) old) (take width b) (replicate (width - length b) new)
    (take_may width a b is)
    (subst (λ n. AllMayBe (replicate (width - length a) old) (replicate (width - n) new)) (may_length a b is)
    (replicate_may (width - length a) old new (fill_may signed a b is)))

-- ---- `?:`

zip_first : (a b : List Bit) → length a ≡ length b → zip_with (λ x y. x) a b ≡ a
zip_first [] b size = refl
zip_first (x ∷ a) [] size = absurd (omega (arith, size))
zip_first (x ∷ a) (y ∷ b) size = ap (λ c. x ∷ c) (zip_first a b (omega (arith, size)))

zip_second : (a b : List Bit) → length a ≡ length b → zip_with (λ x y. y) a b ≡ b
zip_second [] [] size = refl
zip_second [] (y ∷ b) size = absurd (omega (arith, size))
zip_second (x ∷ a) [] size = absurd (omega (arith, size))
zip_second (x ∷ a) (y ∷ b) size = ap (λ c. y ∷ c) (zip_second a b (omega (arith, size)))

module _ (a b a' b' : List Bit) (left : AllMayBe a a') (right : AllMayBe b b') (size : length a' ≡ length b') where
  -- under an unknown condition a bit is known only where both arms have it
  merged_may : (c : Bit) → AllMayBe (zip_with merge_bit a b) (chosen c a' b')
  merged_may One =
      subst (AllMayBe (zip_with merge_bit a b)) (zip_first a' b' size) (zip_may merge_bit (λ x y. x) refl a b a' b' left right)
  merged_may Zero =
      subst (AllMayBe (zip_with merge_bit a b)) (zip_second a' b' size) (zip_may merge_bit (λ x y. y) refl a b a' b' left right)
  merged_may X = zip_may merge_bit merge_bit refl a b a' b' left right
  merged_may Z = zip_may merge_bit merge_bit refl a b a' b' left right

  pub chosen_may : (c c' : Bit) → MayBe c c' → AllMayBe (chosen c a b) (chosen c' a' b')
  chosen_may One c' is = subst (λ c. AllMayBe a (chosen c a' b')) (is refl) left
  chosen_may Zero c' is = subst (λ c. AllMayBe b (chosen c a' b')) (is refl) right
  chosen_may X c' is = merged_may c'
  chosen_may Z c' is = merged_may c'

-- ---- a bit by an index

pub bit_may : (a b : List Bit) (place : ℤ) → AllMayBe a b → MayBe (bit_at a place) (bit_at b place)
bit_may a b (pos k) is = at_may a b is k
bit_may a b (negsuc k) is = may_refl X

pub bit_by_may :
    (a b : List Bit) (low : ℕ) (signed : Bool) (index index' : List Bit) → AllMayBe a b → AllMayBe index index' →
    MayBe (bit_by a low signed index) (bit_by b low signed index')
bit_by_may a b low signed index index' is at known =
    elim (cases_Bool (has_unknown index)) [
      | inl some ↦
          let is_x : bit_by a low signed index ≡ X = cond-true (has_unknown index) X _ some in
          absurd (true≢false (sym (ap is_unknown is_x) ∙ known))
      | inr none ↦
          let place = index_number signed index -ℤ pos low in
          let first : bit_by a low signed index ≡ bit_at a place = cond-false (has_unknown index) X _ none in
          let second : bit_by b low signed index ≡ bit_at b place = cond-false (has_unknown index) X _ none in
          first ∙ bit_may a b place is (subst (λ x. is_unknown x ≡ false) first known) ∙ sym second
          ∙ ap (bit_by b low signed) (all_known index index' at none)
    ]
