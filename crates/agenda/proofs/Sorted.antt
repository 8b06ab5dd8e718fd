use Rattle.std.proofs.Common.{◌≡◌, ℕ, zero, suc, ◌+◌, ◌<◌, List, [], ◌∷◌, ◌++◌, length, get_or, Option, ◌∙◌, ap, arith}
use Rattle.std.specs.List.{Contains, range_with_len}
use Rattle.std.specs.List.Sorted.{IsPermutation, IsSortedByKey}
use Rattle.std.specs.Ordering.{is_lt, nat_cmp}
use Rattle.std.specs.Cmp.Lexicographic.{slice_cmp}
use Rattle.std.proofs.lemmas.Cmp.{nat_list_cmp_total}
use Rattle.std.proofs.lemmas.List.Elements.{Contains-get_or}
use Rattle.std.proofs.lemmas.List.FromFn.{length-range_with_len, get_or-range_with_len}
use Rattle.std.proofs.lemmas.List.Sorted.{Contains-permutation, IsPermutation-sym, length_permutation, ranks_by, sorted_far}
use Rattle.agenda.specs.Agendas.{level_at}
use Rattle.agenda.specs.Rankings.{IsRanking, key_of}
use Rattle.agenda.proofs.Distinct.{AreDistinct, distinct_permutation, distinct_range}
use Rattle.agenda.proofs.Order.{ahead_by_key}

-- What a sort by level and number gives.

pub range_more : (n a : ℕ) → range_with_len a (suc n) ≡ range_with_len a n ++ (a + n) ∷ []
range_more zero a = ap (λ b. b ∷ []) (omega arith)
range_more (suc n) a =
    ap (λ rest. a ∷ rest) (range_more n (a + 1) ∙ ap (λ b. range_with_len (a + 1) n ++ b ∷ []) (omega arith))

contains_range : (n p : ℕ) → p < n → Contains (range_with_len 0 n) p
contains_range n p lt =
    (p, omega (arith, length-range_with_len 0 n, lt), omega (arith, get_or-range_with_len 0 n p p lt))

range_below : (n p : ℕ) → Contains (range_with_len 0 n) p → p < n
range_below n p (k, lt, e) =
    let len = length-range_with_len 0 n in
    let at = get_or-range_with_len 0 n k p (omega (arith, lt, len)) in
    omega (arith, lt, len, at, e)

-- the numbers below the length, sorted by their keys
pub ranking_is : (levels : List (Option ℕ)) (numbers : List ℕ) → IsPermutation (range_with_len 0 (length levels)) numbers → IsSortedByKey (λ p. key_of (level_at levels p) p) (slice_cmp nat_cmp) numbers → IsRanking levels numbers
ranking_is levels numbers perm sorted =
    let n = length levels in
    let len : length numbers ≡ n = length_permutation (range_with_len 0 n) numbers perm ∙ length-range_with_len 0 n in
    let distinct : AreDistinct numbers = distinct_permutation (range_with_len 0 n) numbers perm (distinct_range n) in
    let order = ranks_by nat_list_cmp_total (λ p. key_of (level_at levels p) p) in
    record {
      length_is = len;
      within = λ r lt.
          let back = IsPermutation-sym (range_with_len 0 n) numbers perm in
          let below = range_below n (get_or numbers r 0) (Contains-permutation numbers (range_with_len 0 n) (get_or numbers r 0) back (Contains-get_or numbers r 0 lt)) in
          omega (arith, below, len);
      all = λ p lt. Contains-permutation (range_with_len 0 n) numbers p perm (contains_range n p (omega (arith, lt, len)));
      ascending = λ i j lt in_j.
          ahead_by_key levels (get_or numbers i 0) (get_or numbers j 0)
          (λ e. omega (arith, distinct i j (omega (arith, lt, in_j)) in_j e, lt))
          (sorted_far (λ p q. is_lt (slice_cmp nat_cmp (key_of (level_at levels p) p) (key_of (level_at levels q) q))) order numbers sorted i j 0 (omega (arith, lt)) in_j);
    }
