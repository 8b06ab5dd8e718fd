-- An argument that an output port may drive is the target of a continuous assignment without faults.
use Rattle.std.specs.Prelude.{ℕ, ◌+◌, ◌==◌, nat_lt, Bool, true, false, ◌&&◌, not, List, [], ◌∷◌, ◌++◌, Option, None, Some, Ok, Err}
use Rattle.std.specs.List.{list_any}
use Rattle.std.proofs.Common.{◌≡◌, ◌∙◌, ap, refl, sym, subst, arith, append_assoc, append-nil}
use Rattle.std.proofs.lemmas.Bool.{and_parts, or_from, or_parts}
use Rattle.std.proofs.lemmas.Bool.Decides.{nat_tests}
use Rattle.rtl_const.specs.Constant.{Outcome, constant}
use Rattle.rtl_tree.specs.TreeExpr.{Identifier, Formula, Number, Read, ReadBit, ReadPart, Parens, Apply, Concat, Repeat, Unary, Binary, Choose, Formulas, no_formulas, more_formulas}
use Rattle.rtl_tree.specs.TreeStmt.{Target, Whole, Bit, Part, Joined, Targets, no_targets, more_targets}
use Rattle.elab_laws.specs.elab_scope.declared.covers.Cover.{Cover}
use Rattle.elab_laws.specs.elab_scope.declared.known.Known.{Known}
use Rattle.elab_laws.specs.elab_scope.declared.rules.Writer.TheVariants.{Continuous}
use Rattle.elab_laws.specs.elab_scope.declared.widths.Breadth.{Breadth}
use Rattle.elab_laws.specs.elab_scope.declared.widths.Breadth.TheVariants.{Bits, Unfit, Hidden}
use Rattle.elab_laws.specs.elab_scope.Expressions.{constant_faults, faults, row_faults}
use Rattle.elab_laws.specs.elab_scope.Faults.{Refusal}
use Rattle.elab_laws.specs.elab_scope.Names.{Meanings, numbers_in}
use Rattle.elab_laws.specs.elab_scope.Own.{breadth, row_breadth}
use Rattle.elab_laws.specs.elab_scope.Rules.{index_faults, part_faults, range_faults, read_faults, run_faults, select_faults, width_faults, write_faults}
use Rattle.elab_laws.specs.elab_scope.Selects.{lsb_in, msb_in}
use Rattle.elab_laws.specs.elab_scope.Targets.{all_covered, all_twice_faults, bit_cover, cover_faults, covered, joined_faults, overlap, part_cover, part_target_faults, target_breadth, target_faults, targets_breadth, twice_faults, where_known, whole_cover, with_cover}
use Rattle.elab_laws.specs.elab_scope.Trees.{field_in}
use Rattle.elab_laws.specs.elab_scope.Widths.{beside, fit}
use Rattle.elab_laws.proofs.elab_scope_proofs.Fitting.{no_cons}
use Rattle.elab_laws.proofs.elab_scope_proofs.Sound.{nil_left, nil_right}
use Rattle.elab_flat.specs.elab_links.Drivable.{all_covers_of, all_have_nets, cover_list, covers_of, drivable, has_nets, is_number, may_link, meet, meets_itself}
use Rattle.elab_flat.proofs.elab_links_proofs.Pieces.{as_argument, as_arguments}

-- ---- the target

-- a target as which an argument is written
pub record IsTarget (e : Formula) : Type 0 where
  pub target : Target
  pub is : e ≡ as_argument target

record AreTargets (es : Formulas) : Type 0 where
  pub targets : Targets
  pub are : es ≡ as_arguments targets

mutual
  target_of : (scope : Meanings) (e : Formula) → has_nets scope e ≡ true → IsTarget e
  target_of scope (Read name) h = record { target = Whole name; is = refl }
  target_of scope (ReadBit name index) h = record { target = Bit name index; is = refl }
  target_of scope (ReadPart name kind first second) h =
      record { target = Part name kind first second; is = refl }
  target_of scope (Concat at parts) h =
      let all : AreTargets parts = targets_of scope parts h in
      record { target = Joined at all.targets; is = ap (Concat at) all.are }
  target_of scope (Number value at) h = absurd cc
  target_of scope (Parens at inner) h = absurd cc
  target_of scope (Apply function at inner) h = absurd cc
  target_of scope (Repeat at times parts) h = absurd cc
  target_of scope (Unary operator at operand) h = absurd cc
  target_of scope (Binary operator at left right) h = absurd cc
  target_of scope (Choose at condition taken otherwise) h = absurd cc

  targets_of : (scope : Meanings) (es : Formulas) → all_have_nets scope es ≡ true → AreTargets es
  targets_of scope no_formulas h = record { targets = no_targets; are = refl }
  targets_of scope (more_formulas first others) h =
      let both = and_parts (has_nets scope first) (all_have_nets scope others) h in
      let one : IsTarget first = target_of scope first both.0 in
      let all : AreTargets others = targets_of scope others both.1 in
      record {
        targets = more_targets one.target all.targets;
        are = ap (λ e. more_formulas e others) one.is ∙ ap (more_formulas (as_argument one.target)) all.are;
      }

-- ---- its breadth

mutual
  pub breadth_is : (scope : Meanings) (t : Target) → breadth scope (as_argument t) ≡ target_breadth scope t
  breadth_is scope (Whole name) = refl
  breadth_is scope (Bit name index) = refl
  breadth_is scope (Part name kind first second) = refl
  breadth_is scope (Joined at parts) = ap fit (breadths_are scope parts)

  breadths_are : (scope : Meanings) (ts : Targets) → row_breadth scope (as_arguments ts) ≡ targets_breadth scope ts
  breadths_are scope no_targets = refl
  breadths_are scope (more_targets first others) =
      ap (λ b. beside b (row_breadth scope (as_arguments others))) (breadth_is scope first)
      ∙ ap (beside (target_breadth scope first)) (breadths_are scope others)

-- ---- its parts

both_nil : (xs ys : List Refusal) → xs ≡ [] → ys ≡ [] → xs ++ ys ≡ []
both_nil xs ys h g = ap (λ zs. zs ++ ys) h ∙ g

written : (name : Identifier) (k : Option Known) → may_link k ≡ true → read_faults name k ≡ [] → write_faults Continuous name k ≡ []
written name None h g = absurd (no_cons _ _ g)
written name (Some known) h g = rw h refl

indexed : (name : Identifier) (o : Outcome) → is_number o ≡ true → index_faults Continuous name o ≡ []
indexed name (Ok number) h = refl
indexed name (Err cause) h = absurd cc

selected : (name : Identifier) (k : Option Known) → may_link k ≡ true → select_faults name k ≡ [] → write_faults Continuous name k ++ range_faults name k ≡ []
selected name k h g =
    both_nil (write_faults Continuous name k) (range_faults name k) (written name k h (nil_left (read_faults name k) (range_faults name k) g)) (nil_right (read_faults name k) (range_faults name k) g)

mutual
  parts_faultless : (scope : Meanings) (t : Target) → has_nets scope (as_argument t) ≡ true → faults scope (as_argument t) ≡ [] → part_target_faults Continuous scope t ≡ []
  parts_faultless scope (Whole name) h g = written name (scope name.text) h g
  parts_faultless scope (Bit name index) h g =
      let both = and_parts (may_link (scope name.text)) (is_number (constant (numbers_in scope) index)) h in
      let own = write_faults Continuous name (scope name.text) ++ range_faults name (scope name.text) in
      let select : select_faults name (scope name.text) ≡ [] =
      nil_left (select_faults name (scope name.text)) (faults scope index) g in
      let inner : faults scope index ≡ [] =
      nil_right (select_faults name (scope name.text)) (faults scope index) g in
      both_nil (own ++ faults scope index) (index_faults Continuous name (constant (numbers_in scope) index)) (both_nil own (faults scope index) (selected name (scope name.text) both.0 select) inner) (indexed name (constant (numbers_in scope) index) both.1)
  parts_faultless scope (Part name kind first second) h g =
      let select = select_faults name (scope name.text) in
      let own = write_faults Continuous name (scope name.text) ++ range_faults name (scope name.text) in
      let start = constant_faults scope first in
      let end = constant_faults scope second in
      let run = run_faults name.at kind (constant (numbers_in scope) second) in
      let part = part_faults name.at (scope name.text) (msb_in scope kind first second) (lsb_in scope kind first second) in
      let four : ((select ++ start) ++ end) ++ run ≡ [] =
      nil_left (((select ++ start) ++ end) ++ run) part g in
      let three : (select ++ start) ++ end ≡ [] = nil_left ((select ++ start) ++ end) run four in
      let two : select ++ start ≡ [] = nil_left (select ++ start) end three in
      let ends : (own ++ start) ++ end ≡ [] =
      both_nil (own ++ start) end (both_nil own start (selected name (scope name.text) h (nil_left select start two)) (nil_right select start two)) (nil_right (select ++ start) end three) in
      both_nil (((own ++ start) ++ end) ++ run) part (both_nil ((own ++ start) ++ end) run ends (nil_right ((select ++ start) ++ end) run four)) (nil_right (((select ++ start) ++ end) ++ run) part g)
  parts_faultless scope (Joined at parts) h g =
      let row = row_faults scope (as_arguments parts) in
      let width = width_faults at (breadth scope (as_argument (Joined at parts))) in
      both_nil (joined_faults Continuous scope parts) (width_faults at (target_breadth scope (Joined at parts))) (all_faultless scope parts h (nil_left row width g)) (subst (λ b. width_faults at b ≡ []) (breadth_is scope (Joined at parts)) (nil_right row width g))

  all_faultless : (scope : Meanings) (ts : Targets) → all_have_nets scope (as_arguments ts) ≡ true → row_faults scope (as_arguments ts) ≡ [] → joined_faults Continuous scope ts ≡ []
  all_faultless scope no_targets h g = refl
  all_faultless scope (more_targets first others) h g =
      let both = and_parts (has_nets scope (as_argument first)) (all_have_nets scope (as_arguments others)) h in
      let one = faults scope (as_argument first) in
      let more = row_faults scope (as_arguments others) in
      both_nil (part_target_faults Continuous scope first) (joined_faults Continuous scope others) (parts_faultless scope first both.0 (nil_left one more g)) (all_faultless scope others both.1 (nil_right one more g))

-- ---- bits that stand in it twice

any_front : (a : Cover) (xs ys : List Cover) → list_any (overlap a) (xs ++ ys) ≡ false → list_any (overlap a) xs ≡ false
any_front a [] ys h = refl
any_front a (x ∷ xs) ys h =
    let both = or_parts (overlap a x) (list_any (overlap a) (xs ++ ys)) h in
    or_from (overlap a x) (list_any (overlap a) xs) both.0 (any_front a xs ys both.1)

any_last : (a : Cover) (xs : List Cover) (c : Cover) → list_any (overlap a) (xs ++ c ∷ []) ≡ false → overlap a c ≡ false
any_last a [] c h = (or_parts (overlap a c) false h).0
any_last a (x ∷ xs) c h = any_last a xs c (or_parts (overlap a x) (list_any (overlap a) (xs ++ c ∷ [])) h).1

meet_front : (xs ys : List Cover) → meet (xs ++ ys) ≡ false → meet xs ≡ false
meet_front [] ys h = refl
meet_front (x ∷ xs) ys h =
    let both = or_parts (list_any (overlap x) (xs ++ ys)) (meet (xs ++ ys)) h in
    or_from (list_any (overlap x) xs) (meet xs) (any_front x xs ys both.0) (meet_front xs ys both.1)

apart_numbers : (a b i j k l : ℕ) → ((a == b) && nat_lt i (j + l) && nat_lt j (i + k)) ≡ false → ((b == a) && nat_lt j (i + k) && nat_lt i (j + l)) ≡ false
apart_numbers a b i j k l h = grind (arith, nat_tests)

turned : (a b : Cover) → overlap a b ≡ false → overlap b a ≡ false
turned a b h = apart_numbers a.signal b.signal a.low b.low a.count b.count h

meet_last : (xs : List Cover) (c : Cover) → meet (xs ++ c ∷ []) ≡ false → list_any (overlap c) xs ≡ false
meet_last [] c h = refl
meet_last (x ∷ xs) c h =
    let both = or_parts (list_any (overlap x) (xs ++ c ∷ [])) (meet (xs ++ c ∷ [])) h in
    or_from (overlap c x) (list_any (overlap c) xs) (turned x c (any_last x xs c both.0)) (meet_last xs c both.1)

no_cover_faults : (name : Identifier) (earlier : List Cover) (c : Option Cover) → meet (earlier ++ cover_list c) ≡ false → cover_faults name earlier c ≡ []
no_cover_faults name earlier None h = refl
no_cover_faults name earlier (Some c) h = let none : list_any (overlap c) earlier ≡ false = meet_last earlier c h in rw none refl

covered_on : (earlier : List Cover) (c : Option Cover) → with_cover earlier c ≡ earlier ++ cover_list c
covered_on earlier None = sym (append-nil earlier)
covered_on earlier (Some c) = refl

mutual
  covered_is : (scope : Meanings) (earlier : List Cover) (t : Target) → covered scope earlier t ≡ earlier ++ covers_of scope (as_argument t)
  covered_is scope earlier (Whole name) = covered_on earlier (whole_cover (scope name.text))
  covered_is scope earlier (Bit name index) =
      covered_on earlier (bit_cover (scope name.text) (constant (numbers_in scope) index))
  covered_is scope earlier (Part name kind first second) =
      covered_on earlier (part_cover (scope name.text) (field_in (scope name.text) (msb_in scope kind first second) (lsb_in scope kind first second)))
  covered_is scope earlier (Joined at parts) = all_covered_are scope earlier parts

  all_covered_are : (scope : Meanings) (earlier : List Cover) (ts : Targets) → all_covered scope earlier ts ≡ earlier ++ all_covers_of scope (as_arguments ts)
  all_covered_are scope earlier no_targets = sym (append-nil earlier)
  all_covered_are scope earlier (more_targets first others) =
      all_covered_are scope (covered scope earlier first) others
      ∙ ap (λ cs. cs ++ all_covers_of scope (as_arguments others)) (covered_is scope earlier first)
      ∙ append_assoc earlier (covers_of scope (as_argument first)) (all_covers_of scope (as_arguments others))

mutual
  none_twice : (scope : Meanings) (earlier : List Cover) (t : Target) → meet (earlier ++ covers_of scope (as_argument t)) ≡ false → twice_faults scope earlier t ≡ []
  none_twice scope earlier (Whole name) h = no_cover_faults name earlier (whole_cover (scope name.text)) h
  none_twice scope earlier (Bit name index) h =
      no_cover_faults name earlier (bit_cover (scope name.text) (constant (numbers_in scope) index)) h
  none_twice scope earlier (Part name kind first second) h =
      no_cover_faults name earlier (part_cover (scope name.text) (field_in (scope name.text) (msb_in scope kind first second) (lsb_in scope kind first second))) h
  none_twice scope earlier (Joined at parts) h = all_none_twice scope earlier parts h

  all_none_twice : (scope : Meanings) (earlier : List Cover) (ts : Targets) → meet (earlier ++ all_covers_of scope (as_arguments ts)) ≡ false → all_twice_faults scope earlier ts ≡ []
  all_none_twice scope earlier no_targets h = refl
  all_none_twice scope earlier (more_targets first others) h =
      let own : List Cover = covers_of scope (as_argument first) in
      let more : List Cover = all_covers_of scope (as_arguments others) in
      let apart : meet ((earlier ++ own) ++ more) ≡ false =
      subst (λ cs. meet cs ≡ false) (sym (append_assoc earlier own more)) h in
      both_nil (twice_faults scope earlier first) (all_twice_faults scope (covered scope earlier first) others) (none_twice scope earlier first (meet_front (earlier ++ own) more apart)) (all_none_twice scope (covered scope earlier first) others (subst (λ cs. meet (cs ++ more) ≡ false) (sym (covered_is scope earlier first)) apart))

not_true : (b : Bool) → not b ≡ true → b ≡ false
not_true false h = refl
not_true true h = absurd cc

known_apart : (scope : Meanings) (t : Target) (b : Breadth) → meets_itself b (covers_of scope (as_argument t)) ≡ false → where_known Continuous b (twice_faults scope [] t) ≡ []
known_apart scope t (Bits n) h = none_twice scope [] t h
known_apart scope t Unfit h = refl
known_apart scope t Hidden h = refl

target_faultless : (scope : Meanings) (t : Target) → drivable scope (as_argument t) ≡ true → faults scope (as_argument t) ≡ [] → target_faults Continuous scope t ≡ []
target_faultless scope t h g =
    let apart : Bool = meets_itself (breadth scope (as_argument t)) (covers_of scope (as_argument t)) in
    let both = and_parts (has_nets scope (as_argument t)) (not apart) h in
    both_nil (part_target_faults Continuous scope t) (where_known Continuous (target_breadth scope t) (twice_faults scope [] t)) (parts_faultless scope t both.0 g) (subst (λ b. where_known Continuous b (twice_faults scope [] t) ≡ []) (breadth_is scope t) (known_apart scope t (breadth scope (as_argument t)) (not_true apart both.1)))

-- an argument that may be driven is a target without faults
pub record IsDriven (scope : Meanings) (e : Formula) : Type 0 where
  pub target : Target
  pub is : e ≡ as_argument target
  pub faultless : target_faults Continuous scope target ≡ []

pub driven : (scope : Meanings) (e : Formula) → drivable scope e ≡ true → faults scope e ≡ [] → IsDriven scope e
driven scope e h g =
    let nets : has_nets scope e ≡ true =
    (and_parts (has_nets scope e) (not (meets_itself (breadth scope e) (covers_of scope e))) h).0 in
    let one : IsTarget e = target_of scope e nets in
    record {
      target = one.target;
      is = one.is;
      faultless = target_faultless scope one.target (subst (λ e. drivable scope e ≡ true) one.is h) (subst (λ e. faults scope e ≡ []) one.is g);
    }
