-- Findings in their order, equal ones once.
use Rattle.std.proofs.Common.{◌≡◌, Bool, true, false, cond, List, [], ◌∷◌, sym}
use Rattle.std.specs.List.{dedup, dedup_from}
use Rattle.rtl_rule.specs.declared.finding.Finding.{Finding}
use Rattle.rtl_rule.specs.Order.{comes_before, ranked}
use Rattle.check_found.proofs.Ordered.{Ascends, IsFirst, finding_order, level, one_order, ranked_sum, ranked_up}
use Rattle.check_readings.specs.Readings.{is_same, once}

first_from : (z y : Finding) (xs : List Finding) → comes_before y z ≡ false → IsFirst comes_before z xs → IsFirst comes_before z (dedup_from is_same y xs)
first_from z y [] late first = (late, tt)
first_from z y (x ∷ xs) late first =
    by_test (first_from z y xs late first.1) (first_from z x xs first.0 first.1) (is_same x y)
  where
    by_test : IsFirst comes_before z (dedup_from is_same y xs) → IsFirst comes_before z (dedup_from is_same x xs) → (b : Bool) → IsFirst comes_before z (cond b (dedup_from is_same y xs) (y ∷ dedup_from is_same x xs))
    by_test left right true = left
    by_test left right false = (late, right)

up_from : (y : Finding) (xs : List Finding) → IsFirst comes_before y xs → Ascends comes_before xs → Ascends comes_before (dedup_from is_same y xs)
up_from y [] first up = (tt, tt)
up_from y (x ∷ xs) first up =
    by_test (up_from y xs first.1 up.1) (first_from y x xs first.0 first.1) (up_from x xs up.0 up.1) (is_same x y)
  where
    by_test : Ascends comes_before (dedup_from is_same y xs) → IsFirst comes_before y (dedup_from is_same x xs) → Ascends comes_before (dedup_from is_same x xs) → (b : Bool) → Ascends comes_before (cond b (dedup_from is_same y xs) (y ∷ dedup_from is_same x xs))
    by_test left early right true = left
    by_test left early right false = (early, right)

up : (xs : List Finding) → Ascends comes_before xs → Ascends comes_before (dedup is_same xs)
up [] ascends = tt
up (x ∷ xs) ascends = up_from x xs ascends.0 ascends.1

-- they are in the order of findings
pub once_ranked : (xs : List Finding) → once xs ≡ ranked (once xs)
once_ranked xs =
    one_order comes_before finding_order level (once xs) (ranked (once xs)) (up (ranked xs) (ranked_up xs)) (ranked_up (once xs)) (λ f. sym (ranked_sum f (once xs)))
