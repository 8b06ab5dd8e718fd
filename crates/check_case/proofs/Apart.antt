-- Items of a case that are shown disjoint, one item after another.
use Rattle.std.proofs.Common.{◌≡◌, ◌∙◌, ℕ, suc, ◌+◌, ◌<◌, ◌≤◌, ◌==◌, Bool, true, false, not, cond, ◌&&◌, ◌||◌, List, [], ◌∷◌, ◌++◌, length, drop, get_or, refl, sym, ap, inl, inr, add-one, drop-cons}
use Rattle.std.specs.List.{list_all, list_any}
use Rattle.std.specs.Ordering.{nat_cmp}
use Rattle.std.specs.BTreeSet.{contains}
use Rattle.std.proofs.lemmas.Bool.{and_parts, cases_Bool, cases_eq, cases_lt, eq-eqb, eqb-true, ne_eqb}
use Rattle.std.proofs.lemmas.List.{drop_all}
use Rattle.rtl_bits.specs.declared.Bit.{Bit}
use Rattle.rtl_bits.specs.declared.Bit.TheVariants as bit
use Rattle.rtl_bits.specs.Bits.{all_with, has_unknown, may_equal, number}
use Rattle.rtl_flat.specs.declared.act.CaseKind.TheVariants as kind
use Rattle.rtl_flat.specs.Expression.{Tree}
use Rattle.rtl_flat.specs.Flows.{labels_of, literal}
use Rattle.rtl_flat.specs.Process.{Branches, NoBranch, Branch}
use Rattle.check_parts.proofs.rtl_scan_proofs.Known.{any_push, known_matches}
use Rattle.check_case.specs.declared.disjoint.Seen.{Seen}
use Rattle.check_case.specs.Cases.{all_disjoint, are_disjoint, disjoint_from, items_disjoint, some_differ}
use Rattle.check_case.specs.Literals.{GetsSeen, GetsAllSeen, meets, overlap_in, overlap_tree, overlap_some}

-- ---- bits that may be equal

pub equal_step : (a b : List Bit) (n : ℕ) → n < length a → n < length b → all_with may_equal (drop n a) (drop n b) ≡ (may_equal (get_or a n bit.X) (get_or b n bit.X) && all_with may_equal (drop (n + 1) a) (drop (n + 1) b))
equal_step a b n in_a in_b =
    ap (λ l. all_with may_equal l (drop n b)) (drop-cons a n bit.X in_a)
    ∙ ap (λ l. all_with may_equal (get_or a n bit.X ∷ drop (suc n) a) l) (drop-cons b n bit.X in_b)
    ∙ ap (λ m. may_equal (get_or a n bit.X) (get_or b n bit.X) && all_with may_equal (drop m a) (drop m b)) (sym (add-one n))

nothing_left : (a : List Bit) → all_with may_equal a [] ≡ true
nothing_left [] = refl
nothing_left (x ∷ a) = refl

pub equal_end : (a b : List Bit) (n : ℕ) → (n < length a → length b ≤ n) → all_with may_equal (drop n a) (drop n b) ≡ true
equal_end a b n past =
    elim (cases_lt n (length a)) [
      | inl inside ↦ ap (all_with may_equal (drop n a)) (drop_all n b (past inside)) ∙ nothing_left (drop n a)
      | inr over ↦ ap (λ l. all_with may_equal l (drop n b)) (drop_all n a over)
    ]

-- ---- one label more

or_true : (a : Bool) → (a || true) ≡ true
or_true true = refl
or_true false = refl

or_false : (a : Bool) → (a || false) ≡ a
or_false true = refl
or_false false = refl

or_assoc : (a b c : Bool) → (a || (b || c)) ≡ ((a || b) || c)
or_assoc true b c = refl
or_assoc false b c = refl

not_not : (a : Bool) → a ≡ not (not a)
not_not true = refl
not_not false = refl

known : (b : Bool) → not b ≡ true → b ≡ false
known true h = absurd (cc)
known false h = refl

turned : (a b : ℕ) → (a == b) ≡ (b == a)
turned a b =
    elim (cases_eq a b) [
      | inl same ↦ eq-eqb a b same ∙ sym (eq-eqb b a (sym same))
      | inr other ↦ ne_eqb a b other ∙ sym (ne_eqb b a (λ e. other (sym e)))
    ]

-- known literals of a width may be equal where their numbers are
known_equal : (a b : List Bit) → length a ≡ length b → has_unknown a ≡ false → has_unknown b ≡ false → (number b == number a) ≡ all_with may_equal a b
known_equal a b same in_a in_b =
    turned (number b) (number a) ∙ sym (known_matches kind.X a b same in_a in_b)
    ∙ ap (λ t. t && all_with may_equal a b) (eq-eqb (length a) (length b) same)

next_number : (c e o : Bool) → (cond e true c || o) ≡ ((c || o) || e)
next_number c true o = sym (or_true (c || o))
next_number c false o = sym (or_false (c || o))

module _ (old new : Seen) (x : List Bit) (width : new.width ≡ old.width) (pushed : new.literals.items ≡ old.literals.items ++ x ∷ []) where
  abbrev among : List (List Bit) → List Bit → Bool
  among labels bits = list_any (λ label. all_with may_equal label bits) labels

  -- what is left to show is what it means for sorted labels
  meets_more : (bits : List Bit) → (length bits ≡ old.width → has_unknown bits ≡ false → (contains nat_cmp new.numbers (number bits) || among new.others.items bits) ≡ ((contains nat_cmp old.numbers (number bits) || among old.others.items bits) || all_with may_equal x bits)) → meets new bits ≡ (meets old bits || all_with may_equal x bits)
  meets_more bits sorted =
      ap (λ w. cond ((length bits == w) && not (has_unknown bits)) (contains nat_cmp new.numbers (number bits) || among new.others.items bits) (among new.literals.items bits)) width
      ∙ elim (cases_Bool ((length bits == old.width) && not (has_unknown bits))) as (λ _. cond ((length bits == old.width) && not (has_unknown bits)) (contains nat_cmp new.numbers (number bits) || among new.others.items bits) (among new.literals.items bits) ≡ (cond ((length bits == old.width) && not (has_unknown bits)) (contains nat_cmp old.numbers (number bits) || among old.others.items bits) (among old.literals.items bits) || all_with may_equal x bits)) [
        | inl yes' ↦
            let (fits, plain) = and_parts (length bits == old.width) (not (has_unknown bits)) yes' in
            rw (yes') (sorted (eqb-true (length bits) old.width fits) (known (has_unknown bits) plain))
        | inr no' ↦
            rw (no') (ap (λ l. among l bits) pushed ∙ any_push (λ label. all_with may_equal label bits) old.literals.items x)
      ]

  gets : new.some ≡ true → new.strange ≡ old.strange → ((bits : List Bit) → meets new bits ≡ (meets old bits || all_with may_equal x bits)) → GetsSeen (x ∷ []) old new
  gets some strange more = record { at = at }
    where
      at : (other : List (List Bit)) → overlap_in new other ≡ (overlap_in old other || not (some_differ (x ∷ []) other))
      at [] = some ∙ sym (or_true old.some)
      at (bits ∷ others) =
          ap (λ b. b || meets new bits) strange ∙ ap (λ b. old.strange || b) (more bits)
          ∙ or_assoc old.strange (meets old bits) (all_with may_equal x bits)
          ∙ ap (λ b. (old.strange || meets old bits) || b) (not_not (all_with may_equal x bits))

  pub gets_number : new.some ≡ true → new.strange ≡ old.strange → length x ≡ old.width → has_unknown x ≡ false → ((n : ℕ) → contains nat_cmp new.numbers n ≡ cond (n == number x) true (contains nat_cmp old.numbers n)) → new.others.items ≡ old.others.items → GetsSeen (x ∷ []) old new
  gets_number some strange long plain numbers others =
      gets some strange (λ bits. meets_more bits (λ fits plain'.
      ap (λ b. b || among new.others.items bits) (numbers (number bits))
      ∙ ap (λ l. cond (number bits == number x) true (contains nat_cmp old.numbers (number bits)) || among l bits) others
      ∙ next_number (contains nat_cmp old.numbers (number bits)) (number bits == number x) (among old.others.items bits)
      ∙ ap (λ b. (contains nat_cmp old.numbers (number bits) || among old.others.items bits) || b) (known_equal x bits (long ∙ sym fits) plain plain')))

  pub gets_other : new.some ≡ true → new.strange ≡ old.strange → new.numbers ≡ old.numbers → new.others.items ≡ old.others.items ++ x ∷ [] → GetsSeen (x ∷ []) old new
  gets_other some strange numbers others =
      gets some strange (λ bits. meets_more bits (λ fits plain'.
      ap (λ ns. contains nat_cmp ns (number bits) || among new.others.items bits) numbers
      ∙ ap (λ l. contains nat_cmp old.numbers (number bits) || among l bits) others
      ∙ ap (λ b. contains nat_cmp old.numbers (number bits) || b) (any_push (λ label. all_with may_equal label bits) old.others.items x)
      ∙ or_assoc (contains nat_cmp old.numbers (number bits)) (among old.others.items bits) (all_with may_equal x bits)))

-- a label that isn't a literal
pub gets_strange : (old new : Seen) → new.some ≡ true → new.strange ≡ true → GetsSeen [] old new
gets_strange old new some strange = record { at = at }
  where
    at : (other : List (List Bit)) → overlap_in new other ≡ (overlap_in old other || not (some_differ [] other))
    at [] = some ∙ sym (or_true old.some)
    at (bits ∷ others) =
        ap (λ b. b || meets new bits) strange ∙ sym (or_true (old.strange || meets old bits))

-- ---- items

abbrev met : List Tree → Tree → Bool
met labels other = list_any (λ label. not (some_differ (literal label) (literal other))) labels

any_or : (f g : Tree → Bool) (xs : List Tree) → list_any (λ x. f x || g x) xs ≡ (list_any f xs || list_any g xs)
any_or f g [] = refl
any_or f g (x ∷ xs) =
    ap (λ b. (f x || g x) || b) (any_or f g xs) ∙ swap (f x) (g x) (list_any f xs) (list_any g xs)
  where
    swap : (a b c d : Bool) → ((a || b) || (c || d)) ≡ ((a || c) || (b || d))
    swap true b c d = refl
    swap false true c d = sym (or_true c)
    swap false false c d = refl

any_append : (f : Tree → Bool) (xs ys : List Tree) → list_any f (xs ++ ys) ≡ (list_any f xs || list_any f ys)
any_append f [] ys = refl
any_append f (x ∷ xs) ys =
    ap (λ b. f x || b) (any_append f xs ys) ∙ or_assoc (f x) (list_any f xs) (list_any f ys)

all_not : (p : Tree → Bool) (xs : List Tree) → list_all p xs ≡ not (list_any (λ x. not (p x)) xs)
all_not p [] = refl
all_not p (x ∷ xs) = ap (λ b. p x && b) (all_not p xs) ∙ by (p x) (list_any (λ x. not (p x)) xs)
  where
    by : (a b : Bool) → (a && not b) ≡ not (not a || b)
    by true b = refl
    by false b = refl

none_met : (xs : List Tree) → true ≡ not (list_any (met []) xs)
none_met [] = refl
none_met (x ∷ xs) = none_met xs

both_not : (a b : Bool) → (not a && not b) ≡ not (a || b)
both_not true b = refl
both_not false b = refl

items_is : (one other : List Tree) → items_disjoint one other ≡ not (list_any (met one) other)
items_is [] other = none_met other
items_is (a ∷ one) other =
    ap (λ b. b && items_disjoint one other) (all_not (are_disjoint a) other)
    ∙ ap (λ b. not (list_any (λ x. not (are_disjoint a x)) other) && b) (items_is one other)
    ∙ both_not (list_any (λ x. not (are_disjoint a x)) other) (list_any (met one) other)
    ∙ ap not (sym (any_or (λ x. not (are_disjoint a x)) (met one) other))

from_is : (one : List Tree) (items : Branches) → disjoint_from one items ≡ not (list_any (met one) (labels_of items))
from_is one NoBranch = refl
from_is one (Branch labels body others) =
    ap (λ b. b && disjoint_from one others) (items_is one labels)
    ∙ ap (λ b. not (list_any (met one) labels) && b) (from_is one others)
    ∙ both_not (list_any (met one) labels) (list_any (met one) (labels_of others))
    ∙ ap not (sym (any_append (met one) labels (labels_of others)))

pub none_overlap : (seen : Seen) → ((y : List (List Bit)) → overlap_in seen y ≡ false) → (labels : List Tree) → overlap_some seen labels ≡ false
none_overlap seen none [] = refl
none_overlap seen none (x ∷ labels) =
    ap (λ b. b || overlap_some seen labels) (none (literal x)) ∙ none_overlap seen none labels

-- whether items are shown disjoint from labels that were seen, and from each other
abbrev pub rest_disjoint : Seen → Branches → Bool
rest_disjoint seen items = not (overlap_some seen (labels_of items)) && all_disjoint items

more_overlap : (labels : List Tree) (old new : Seen) → GetsAllSeen labels old new → (rest : List Tree) → overlap_some new rest ≡ (overlap_some old rest || list_any (met labels) rest)
more_overlap labels old new more rest =
    ap (λ (f : Tree → Bool). list_any f rest) (λ i x. more.at (literal x) i) ∙ any_or (overlap_tree old) (met labels) rest

pub disjoint_next : (labels : List Tree) (body : _) (others : Branches) (old new : Seen) → overlap_some old labels ≡ false → GetsAllSeen labels old new → rest_disjoint new others ≡ rest_disjoint old (Branch labels body others)
disjoint_next labels body others old new apart more =
    let rest = labels_of others in
    let seen = overlap_some old rest in
    let here = list_any (met labels) rest in
    ap (λ b. not b && all_disjoint others) (more_overlap labels old new more rest)
    ∙ by seen here (all_disjoint others)
    ∙ ap (λ b. not seen && (b && all_disjoint others)) (sym (from_is labels others))
    ∙ ap (λ b. not b && (disjoint_from labels others && all_disjoint others)) (sym (any_append (overlap_tree old) labels rest ∙ ap (λ b. b || seen) apart))
  where
    by : (a b c : Bool) → (not (a || b) && c) ≡ (not a && (not b && c))
    by true b c = refl
    by false b c = refl

pub disjoint_not : (labels : List Tree) (body : _) (others : Branches) (old : Seen) → overlap_some old labels ≡ true → rest_disjoint old (Branch labels body others) ≡ false
disjoint_not labels body others old over =
    ap (λ b. not b && (disjoint_from labels others && all_disjoint others)) (any_append (overlap_tree old) labels (labels_of others) ∙ ap (λ b. b || overlap_some old (labels_of others)) over)
