-- A list of findings has one order: two lists with the same elements that are both in order are the same.
use Rattle.std.proofs.Common.{◌≡◌, ℕ, suc, ◌+◌, ◌<◌, ◌≤◌, Bool, true, false, refl, sym, ap, ◌∙◌, List, [], ◌∷◌, length, get_or, Option, None, Some, arith}
use Rattle.std.specs.Prelude.{⊤, cond}
use Rattle.std.specs.List.{slice_get, sum_by}
use Rattle.std.specs.List.Sorted.{IsPermutation, IsSortedBy}
use Rattle.std.specs.Cmp.{IsStrictWeakOrder}
use Rattle.std.specs.Cmp.Lexicographic.{slice_cmp}
use Rattle.std.specs.Ordering.{is_eq, is_lt, nat_cmp, ordering_reverse}
use Rattle.std.specs.declared.cmp.Ordering.{Ordering}
use Rattle.std.specs.declared.cmp.Ordering.TheVariants.{Less, Equal, Greater}
use Rattle.std.proofs.lemmas.Cmp.{nat_list_cmp_total}
use Rattle.std.proofs.lemmas.List.Sums.{sum_by-cons}
use Rattle.std.proofs.lemmas.List.Sorted.{ranks_by, sorted_far, sum_by-IsPermutation}
use Rattle.std.proofs.lemmas.Option.{same_Some}
use Rattle.std.proofs.lemmas.Map.Text.{is_eq-slice_cmp}
use Rattle.std.proofs.lemmas.Slice.Eq.{bytes_eq-Decides}
use Rattle.rtl_flat.specs.declared.expr.SigId.{SigId}
use Rattle.rtl_rule.specs.declared.finding.Finding.{Finding}
use Rattle.rtl_rule.specs.declared.rule.Rule.{Rule}
use Rattle.rtl_rule.proofs.Rules.{same_rule}
use Rattle.rtl_rule.specs.Order.{signal_rank, rank_of, comes_before, placed, ranked}
use Rattle.rtl_rule.specs.Rows.{rule_number, rules}

-- ---- lists under any order

-- nothing of a list comes before an element
abbrev pub IsFirst : {X : Type 0} → (X → X → Bool) → X → List X → Type 0
IsFirst before x [] = ⊤
IsFirst before x (y ∷ ys) = (before y x ≡ false) × IsFirst before x ys

-- each element is first among itself and those after it
abbrev pub Ascends : {X : Type 0} → (X → X → Bool) → List X → Type 0
Ascends before [] = ⊤
Ascends before (x ∷ xs) = IsFirst before x xs × Ascends before xs

-- one for each element that x doesn't come before
abbrev early : {X : Type 0} → (X → X → Bool) → X → X → ℕ
early before x z = cond (before x z) 0 1

module _ {X : Type 0} (before : X → X → Bool) (order : IsStrictWeakOrder before) where
  first_of : (x : X) (xs : List X) → ((k : ℕ) → k < length xs → before (get_or xs k x) x ≡ false) → IsFirst before x xs
  first_of x [] h = tt
  first_of x (y ∷ ys) h = (h 0 (omega arith), first_of x ys (λ k p. h (suc k) (omega arith)))

  ascends_of : (xs : List X) → ((i j : ℕ) (d : X) → i ≤ j → j < length xs → before (get_or xs j d) (get_or xs i d) ≡ false) → Ascends before xs
  ascends_of [] h = tt
  ascends_of (x ∷ xs) h = (
    first_of x xs (λ k p. h 0 (suc k) x (omega arith) (omega arith)),
    ascends_of xs (λ i j d p q. h (suc i) (suc j) d (omega arith) (omega arith)),
  )

  pub ascends : (xs : List X) → IsSortedBy before xs → Ascends before xs
  ascends xs sorted = ascends_of xs (sorted_far before order xs sorted)

  -- what doesn't come after the first of a list
  pub first_later : (x y : X) (ys : List X) → before y x ≡ false → IsFirst before y ys → IsFirst before x ys
  first_later x y [] early first = tt
  first_later x y (z ∷ zs) early first = (order.chain z y x first.0 early, first_later x y zs early first.1)

  itself : (x : X) → before x x ≡ false
  itself x = by_test (before x x) refl
    where
      by_test : (b : Bool) → before x x ≡ b → before x x ≡ false
      by_test false is = is
      by_test true is = order.one_way x x is

  after_first : (x y z : X) → before x y ≡ true → before z y ≡ false → before x z ≡ true
  after_first x y z less first = by_test (before x z) refl
    where
      by_test : (b : Bool) → before x z ≡ b → before x z ≡ true
      by_test true is = is
      by_test false is = absurd (let back = order.chain x z y is first in cc)

  all_late : (x y : X) (ys : List X) → before x y ≡ true → IsFirst before y ys → sum_by (early before x) ys ≡ 0
  all_late x y [] less first = refl
  all_late x y (z ∷ zs) less first =
      let none : early before x z ≡ 0 = ap (λ b. cond b 0 1) (after_first x y z less first.0) in
      let rest = all_late x y zs less first.1 in
      let sum = sum_by-cons (early before x) z zs in
      omega (arith, none, rest, sum)

  -- the first of one list doesn't come before the first of another with the same elements
  not_earlier : (x y : X) (xs ys : List X) → IsFirst before y ys → ((f : X → ℕ) → sum_by f (x ∷ xs) ≡ sum_by f (y ∷ ys)) → before x y ≡ false
  not_earlier x y xs ys first same = by_test (before x y) refl
    where
      by_test : (b : Bool) → before x y ≡ b → before x y ≡ false
      by_test false is = is
      by_test true is =
          let one : early before x x ≡ 1 = ap (λ b. cond b 0 1) (itself x) in
          let none : early before x y ≡ 0 = ap (λ b. cond b 0 1) is in
          let counts = same (early before x) in
          let left = sum_by-cons (early before x) x xs in
          let right = sum_by-cons (early before x) y ys in
          let late = all_late x y ys is first in
          absurd (omega (arith, one, none, counts, left, right, late))

  pub one_order : (level : (x y : X) → before x y ≡ false → before y x ≡ false → x ≡ y)
      → (xs ys : List X) → Ascends before xs → Ascends before ys → ((f : X → ℕ) → sum_by f xs ≡ sum_by f ys) → xs ≡ ys
  one_order level [] [] up up' same = refl
  one_order level [] (y ∷ ys) up up' same =
      let count = same (λ z. 1) in
      let right = sum_by-cons (λ (z : X). 1) y ys in
      absurd (omega (arith, count, right))
  one_order level (x ∷ xs) [] up up' same =
      let count = same (λ z. 1) in
      let left = sum_by-cons (λ (z : X). 1) x xs in
      absurd (omega (arith, count, left))
  one_order level (x ∷ xs) (y ∷ ys) up up' same =
      let first : x ≡ y =
      level x y (not_earlier x y xs ys up'.0 same) (not_earlier y x ys xs up.0 (λ f. sym (same f))) in
      let rest : (f : X → ℕ) → sum_by f xs ≡ sum_by f ys =
      λ f. (let value = ap f first in let left = sum_by-cons f x xs in let right = sum_by-cons f y ys in let whole = same f in omega (arith, value, left, right, whole)) in
      let others : xs ≡ ys = one_order level xs ys up.1 up'.1 rest in
      cc

-- ---- the order of findings

pub finding_order : IsStrictWeakOrder comes_before
finding_order = ranks_by nat_list_cmp_total rank_of

same_signal : (x y : Option SigId) → signal_rank x ≡ signal_rank y → x ≡ y
same_signal None None same = refl
same_signal None (Some y) same = absurd (omega (arith, same))
same_signal (Some x) None same = absurd (omega (arith, same))
same_signal (Some x) (Some y) same =
    let number : x.0 ≡ y.0 = omega (arith, same) in λ i. Some (record { 0 = number i })

same_finding : (x y : Finding) → rank_of x ≡ rank_of y → x ≡ y
same_finding x y same =
    let instance : x.instance ≡ y.instance = cc in
    let file : x.spot.file ≡ y.spot.file = cc in
    let at : x.spot.at ≡ y.spot.at = cc in
    let number : rule_number x.rule ≡ rule_number y.rule = cc in
    let rule : x.rule ≡ y.rule = same_rule x.rule y.rule number in
    let rank : signal_rank x.signal ≡ signal_rank y.signal = cc in
    let signal : x.signal ≡ y.signal = same_signal x.signal y.signal rank in
    λ i. record {
      rule = rule i;
      signal = signal i;
      instance = instance i;
      spot = record { file = file i; at = at i };
    }

neither_less : (o p : Ordering) → o ≡ ordering_reverse p → is_lt o ≡ false → is_lt p ≡ false → is_eq o ≡ true
neither_less Less p turned one other = absurd (cc)
neither_less Equal p turned one other = refl
neither_less Greater Less turned one other = absurd (cc)
neither_less Greater Equal turned one other = absurd (cc)
neither_less Greater Greater turned one other = absurd (cc)

-- findings that tie are the same
pub level : (x y : Finding) → comes_before x y ≡ false → comes_before y x ≡ false → x ≡ y
level x y one other =
    let tie = neither_less (slice_cmp nat_cmp (rank_of x) (rank_of y)) (slice_cmp nat_cmp (rank_of y) (rank_of x)) (nat_list_cmp_total.antisymm (rank_of x) (rank_of y)) one other in
    same_finding x y
    ((bytes_eq-Decides (rank_of x) (rank_of y)).0 (sym (is_eq-slice_cmp (rank_of x) (rank_of y)) ∙ tie))

placed_sum : (f : Finding → ℕ) (x : Finding) (ys : List Finding) → sum_by f (placed x ys) ≡ f x + sum_by f ys
placed_sum f x [] = sum_by-cons f x []
placed_sum f x (y ∷ ys) = by_test (placed_sum f x ys) (comes_before y x)
  where
    by_test : sum_by f (placed x ys) ≡ f x + sum_by f ys → (b : Bool) → sum_by f (cond b (y ∷ placed x ys) (x ∷ y ∷ ys)) ≡ f x + sum_by f (y ∷ ys)
    by_test rest true =
        let first = sum_by-cons f y (placed x ys) in
        let whole = sum_by-cons f y ys in
        omega (arith, first, rest, whole)
    by_test rest false = sum_by-cons f x (y ∷ ys)

pub ranked_sum : (f : Finding → ℕ) (xs : List Finding) → sum_by f (ranked xs) ≡ sum_by f xs
ranked_sum f [] = refl
ranked_sum f (x ∷ xs) =
    let put = placed_sum f x (ranked xs) in
    let rest = ranked_sum f xs in
    let whole = sum_by-cons f x xs in
    omega (arith, put, rest, whole)

placed_first : (z x : Finding) (ys : List Finding) → comes_before x z ≡ false → IsFirst comes_before z ys → IsFirst comes_before z (placed x ys)
placed_first z x [] late first = (late, tt)
placed_first z x (y ∷ ys) late first =
    by_test (placed_first z x ys late first.1) (comes_before y x)
  where
    by_test : IsFirst comes_before z (placed x ys) → (b : Bool) → IsFirst comes_before z (cond b (y ∷ placed x ys) (x ∷ y ∷ ys))
    by_test rest true = (first.0, rest)
    by_test rest false = (late, first)

placed_up : (x : Finding) (ys : List Finding) → Ascends comes_before ys → Ascends comes_before (placed x ys)
placed_up x [] up = (tt, tt)
placed_up x (y ∷ ys) up = by_test (placed_up x ys up.1) (comes_before y x) refl
  where
    by_test : Ascends comes_before (placed x ys) → (b : Bool) → comes_before y x ≡ b → Ascends comes_before (cond b (y ∷ placed x ys) (x ∷ y ∷ ys))
    by_test rest true is = (placed_first y x ys (finding_order.one_way y x is) up.0, rest)
    by_test rest false is = ((is, first_later comes_before finding_order x y ys is up.0), up)

pub ranked_up : (xs : List Finding) → Ascends comes_before (ranked xs)
ranked_up [] = tt
ranked_up (x ∷ xs) = placed_up x (ranked xs) (ranked_up xs)

-- findings in another order that are sorted are ranked
pub sorted_ranked : (xs ys : List Finding) → IsPermutation xs ys → IsSortedBy comes_before ys → ys ≡ ranked xs
sorted_ranked xs ys moved sorted =
    one_order comes_before finding_order level ys (ranked xs) (ascends comes_before finding_order ys sorted) (ranked_up xs)
    (λ f. sum_by-IsPermutation f xs ys moved ∙ sym (ranked_sum f xs))
