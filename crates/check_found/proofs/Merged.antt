-- Two lists in order, put together from their fronts.
use Rattle.std.proofs.Common.{◌≡◌, ◌∙◌, ℕ, ◌+◌, ◌<◌, ◌≤◌, true, false, sym, ap, subst, List, [], ◌∷◌, ◌++◌, length, drop, get_or, arith, append-nil, inl, inr}
use Rattle.std.specs.Prelude.{⊤, ◌⊎◌}
use Rattle.std.specs.List.{sum_by}
use Rattle.std.proofs.lemmas.List.{drop_all, drop_more}
use Rattle.std.proofs.lemmas.List.Sums.{sum_by-append, sum_by-cons}
use Rattle.rtl_rule.specs.declared.finding.Finding.{Finding}
use Rattle.rtl_rule.specs.Order.{comes_before, ranked}
use Rattle.check_found.proofs.Ordered.{Ascends, IsFirst, finding_order, first_later, level, one_order, ranked_sum, ranked_up}

-- no element of one list comes after an element of another
abbrev pub AreEarly : List Finding → List Finding → Type 0
AreEarly [] later = ⊤
AreEarly (x ∷ xs) later = IsFirst comes_before x later × AreEarly xs later

-- two lists have been put together up to what is left of each
pub record IsMerging (all one other : List Finding) (left right : List Finding) : Type 0 where
  pub sums : (f : Finding → ℕ) → sum_by f all + (sum_by f one + sum_by f other) ≡ sum_by f left + sum_by f right
  pub up : Ascends comes_before all
  pub up_one : Ascends comes_before one
  pub up_other : Ascends comes_before other
  pub before_one : AreEarly all one
  pub before_other : AreEarly all other

first_push : (x y : Finding) (ys : List Finding) → IsFirst comes_before x ys → comes_before y x ≡ false → IsFirst comes_before x (ys ++ y ∷ [])
first_push x y [] first late = (late, tt)
first_push x y (z ∷ ys) first late = (first.0, first_push x y ys first.1 late)

-- an element that nothing comes after is put behind
up_push : (x : Finding) (xs later : List Finding) → Ascends comes_before xs → AreEarly xs (x ∷ later) → Ascends comes_before (xs ++ x ∷ [])
up_push x [] later up early = (tt, tt)
up_push x (y ∷ xs) later up early =
    (first_push y x xs up.0 early.0.0, up_push x xs later up.1 early.1)

early_rest : (x : Finding) (xs later : List Finding) → AreEarly xs (x ∷ later) → AreEarly xs later
early_rest x [] later early = tt
early_rest x (y ∷ xs) later early = (early.0.1, early_rest x xs later early.1)

early_push : (x : Finding) (xs later : List Finding) → AreEarly xs later → IsFirst comes_before x later → AreEarly (xs ++ x ∷ []) later
early_push x [] later early first = (first, tt)
early_push x (y ∷ xs) later early first = (early.0, early_push x xs later early.1 first)

up_append : (xs ys : List Finding) → Ascends comes_before xs → Ascends comes_before ys → AreEarly xs ys → Ascends comes_before (xs ++ ys)
up_append [] ys up up' early = up'
up_append (x ∷ xs) ys up up' early =
    (first_append xs up.0, up_append xs ys up.1 up' early.1)
  where
    first_append : (zs : List Finding) → IsFirst comes_before x zs → IsFirst comes_before x (zs ++ ys)
    first_append [] first = early.0
    first_append (z ∷ zs) first = (first.0, first_append zs first.1)

-- ---- the steps

-- the next is the first of one list
pub from_one : (all one other left right : List Finding) (x : Finding) → IsMerging all (x ∷ one) other left right → IsFirst comes_before x other → IsMerging (all ++ x ∷ []) one other left right
from_one all one other left right x h first =
    record {
      sums = λ f.
          let both = sum_by-append f all (x ∷ []) in
          let last = sum_by-cons f x [] in
          let whole = sum_by-cons f x one in
          let same = h.sums f in
          omega (arith, both, last, whole, same);
      up = up_push x all one h.up h.before_one;
      up_one = h.up_one.1;
      up_other = h.up_other;
      before_one = early_push x all one (early_rest x all one h.before_one) h.up_one.0;
      before_other = early_push x all other h.before_other first;
    }

-- the next is the first of the other
pub from_other : (all one other left right : List Finding) (y : Finding) → IsMerging all one (y ∷ other) left right → IsFirst comes_before y one → IsMerging (all ++ y ∷ []) one other left right
from_other all one other left right y h first =
    record {
      sums = λ f.
          let both = sum_by-append f all (y ∷ []) in
          let last = sum_by-cons f y [] in
          let whole = sum_by-cons f y other in
          let same = h.sums f in
          omega (arith, both, last, whole, same);
      up = up_push y all other h.up h.before_other;
      up_one = h.up_one;
      up_other = h.up_other.1;
      before_one = early_push y all one h.before_one first;
      before_other = early_push y all other (early_rest y all other h.before_other) h.up_other.0;
    }

-- ---- by places

module _ (left right all : List Finding) (i j : ℕ) (d e : Finding) (in_left : i < length left) (in_right : j < length right) (h : IsMerging all (drop i left) (drop j right) left right) where
  left_is : drop i left ≡ (get_or left i d) ∷ drop (i + 1) left
  left_is = drop_more left i d in_left

  right_is : drop j right ≡ (get_or right j e) ∷ drop (j + 1) right
  right_is = drop_more right j e in_right

  opened : IsMerging all ((get_or left i d) ∷ drop (i + 1) left) ((get_or right j e) ∷ drop (j + 1) right) left right
  opened =
      subst (λ one. IsMerging all one ((get_or right j e) ∷ drop (j + 1) right) left right) left_is
      (subst (λ other. IsMerging all (drop i left) other left right) right_is h)

  pub take_left : comes_before (get_or right j e) (get_or left i d) ≡ false → IsMerging (all ++ (get_or left i d) ∷ []) (drop (i + 1) left) (drop j right) left right
  take_left late =
      subst (λ other. IsMerging (all ++ (get_or left i d) ∷ []) (drop (i + 1) left) other left right) (sym right_is)
      (from_one all (drop (i + 1) left) ((get_or right j e) ∷ drop (j + 1) right) left right (get_or left i d) opened
      (late, first_later comes_before finding_order (get_or left i d) (get_or right j e) (drop (j + 1) right) late opened.up_other.0))

  pub take_right : comes_before (get_or right j e) (get_or left i d) ≡ true → IsMerging (all ++ (get_or right j e) ∷ []) (drop i left) (drop (j + 1) right) left right
  take_right early =
      let late = finding_order.one_way (get_or right j e) (get_or left i d) early in
      subst (λ one. IsMerging (all ++ (get_or right j e) ∷ []) one (drop (j + 1) right) left right) (sym left_is)
      (from_other all ((get_or left i d) ∷ drop (i + 1) left) (drop (j + 1) right) left right (get_or right j e) opened
      (late, first_later comes_before finding_order (get_or right j e) (get_or left i d) (drop (i + 1) left) late opened.up_one.0))

-- ---- the end

-- where one of them is used up, the rest of both comes behind
whole : (all one other left right : List Finding) → IsMerging all one other left right → (one ≡ []) ⊎ (other ≡ []) → IsMerging (all ++ (one ++ other)) [] [] left right
whole all one other left right h used =
    record {
      sums = λ f.
          let both = sum_by-append f all (one ++ other) in
          let inner = sum_by-append f one other in
          let same = h.sums f in
          omega (arith, both, inner, same);
      up = up_append all (one ++ other) h.up rest_up (early_both all h.before_one h.before_other);
      up_one = tt;
      up_other = tt;
      before_one = early_none (all ++ (one ++ other));
      before_other = early_none (all ++ (one ++ other));
    }
  where
    early_none : (zs : List Finding) → AreEarly zs []
    early_none [] = tt
    early_none (z ∷ zs) = (tt, early_none zs)

    rest_up : Ascends comes_before (one ++ other)
    rest_up = elim used [
      | inl none ↦ subst (λ zs. Ascends comes_before (zs ++ other)) (sym none) h.up_other
      | inr none ↦ subst (Ascends comes_before) (sym (ap (λ zs. one ++ zs) none ∙ append-nil one)) h.up_one
    ]

    first_both : (z : Finding) (xs ys : List Finding) → IsFirst comes_before z xs → IsFirst comes_before z ys → IsFirst comes_before z (xs ++ ys)
    first_both z [] ys first second = second
    first_both z (x ∷ xs) ys first second = (first.0, first_both z xs ys first.1 second)

    early_both : (zs : List Finding) → AreEarly zs one → AreEarly zs other → AreEarly zs (one ++ other)
    early_both [] first second = tt
    early_both (z ∷ zs) first second =
        (first_both z one other first.0 second.0, early_both zs first.1 second.1)

pub merged_all : (all left right a b : List Finding) (i j : ℕ) → IsMerging all (drop i left) (drop j right) left right → (length left ≤ i) ⊎ (length right ≤ j) → left ≡ ranked a → right ≡ ranked b → all ++ (drop i left ++ drop j right) ≡ ranked (a ++ b)
merged_all all left right a b i j h used is_a is_b =
    let end = whole all (drop i left) (drop j right) left right h none in
    one_order comes_before finding_order level (all ++ (drop i left ++ drop j right)) (ranked (a ++ b)) end.up (ranked_up (a ++ b))
    (λ f.
    let same = end.sums f in
    let of_left = ap (sum_by f) is_a ∙ ranked_sum f a in
    let of_right = ap (sum_by f) is_b ∙ ranked_sum f b in
    let of_both = ranked_sum f (a ++ b) ∙ sum_by-append f a b in
    omega (arith, same, of_left, of_right, of_both))
  where
    none : (drop i left ≡ []) ⊎ (drop j right ≡ [])
    none = elim used [
      | inl past ↦ inl (drop_all i left past)
      | inr past ↦ inr (drop_all j right past)
    ]

-- two lists that are ranked are put together from nothing
pub merging : (left right a b : List Finding) → left ≡ ranked a → right ≡ ranked b → IsMerging [] left right left right
merging left right a b is_a is_b =
    record {
      sums = λ f. omega arith;
      up = tt;
      up_one = subst (Ascends comes_before) (sym is_a) (ranked_up a);
      up_other = subst (Ascends comes_before) (sym is_b) (ranked_up b);
      before_one = tt;
      before_other = tt;
    }
