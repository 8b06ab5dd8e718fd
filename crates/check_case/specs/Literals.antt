-- It serves inner contracts and proofs; no answer of the program is stated by it.
-- Labels that are shown disjoint from others.
use Rattle.std.specs.Prelude.{◌≡◌, ◌==◌, Bool, not, cond, ◌&&◌, ◌||◌, List, [], ◌∷◌, length}
use Rattle.std.specs.List.{list_any}
use Rattle.std.specs.Ordering.{nat_cmp}
use Rattle.std.specs.BTreeSet.{contains}
use Rattle.rtl_bits.specs.declared.Bit.{Bit}
use Rattle.rtl_bits.specs.Bits.{all_with, has_unknown, may_equal, number}
use Rattle.rtl_flat.specs.Expression.{Tree}
use Rattle.rtl_flat.specs.Flows.{literal}
use Rattle.check_case.specs.declared.disjoint.Seen.{Seen}
use Rattle.check_case.specs.Cases.{some_differ}

-- whether a literal isn't shown disjoint from one of the literals
abbrev pub meets : Seen → List Bit → Bool
meets seen bits =
    cond ((length bits == seen.width) && not (has_unknown bits)) (contains nat_cmp seen.numbers (number bits) || list_any (λ label. all_with may_equal label bits) seen.others.items) (list_any (λ label. all_with may_equal label bits) seen.literals.items)

-- whether a label isn't shown disjoint from one of the labels
abbrev pub overlap_in : Seen → List (List Bit) → Bool
overlap_in seen [] = seen.some
overlap_in seen (bits ∷ _) = seen.strange || meets seen bits

abbrev pub overlap_tree : Seen → Tree → Bool
overlap_tree seen label = overlap_in seen (literal label)

abbrev pub overlap_some : Seen → List Tree → Bool
overlap_some seen labels = list_any (overlap_tree seen) labels

-- one label more
pub record GetsSeen (label : List (List Bit)) (old new : Seen) : Type 0 where
  pub at : (other : List (List Bit)) → overlap_in new other ≡ (overlap_in old other || not (some_differ label other))

-- some labels more
pub record GetsAllSeen (labels : List Tree) (old new : Seen) : Type 0 where
  pub at : (other : List (List Bit)) → overlap_in new other ≡ (overlap_in old other || list_any (λ label. not (some_differ (literal label) other)) labels)
