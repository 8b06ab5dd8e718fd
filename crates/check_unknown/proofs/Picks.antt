-- Bit-selects.
use Rattle.std.proofs.Common.{ℕ, zero, suc, ◌≡◌, ◌∙◌, ◌+◌, ◌*◌, ◌^◌, ◌<◌, ◌≤◌, Bool, true, false, not, cond, leb, ◌/◌, ◌&&◌, List, [], ◌∷◌, ◌++◌, map, length, take, get_or, Option, None, Some, refl, sym, ap, subst, inl, inr, arith, append-nil, append_assoc}
use Rattle.std.specs.Prelude.{ℤ, ◌==◌, nat_lt}
use Rattle.std.specs.List.{cons_option, filter, filter_map}
use Rattle.std.proofs.lemmas.Bool.{and_parts, and_from, cases_eq, eq-eqb, false≢true, lt-ltb, le-leb, eqb-true, or_cases, or_left, or_right, ltb-true}
use Rattle.std.proofs.Math.Nat.{div-lt_iff_lt-mul, one-le-pow, pow-le-pow_right}
use Rattle.std.proofs.lemmas.List.{map-append, take_more}
use Rattle.std.proofs.lemmas.List.Elements.{filter-append, filter_map-append}
use Rattle.rtl_bits.specs.Bits.{is_one_at}
use Rattle.text_ground.specs.declared.text.Spot.{Spot}
use Rattle.rtl_flat.specs.declared.expr.Index.{Index}
use Rattle.rtl_flat.specs.declared.expr.Index.TheVariants as index
use Rattle.rtl_flat.specs.declared.expr.Select.{Select}
use Rattle.rtl_flat.specs.declared.expr.Select.TheVariants as select
use Rattle.rtl_flat.specs.Expression.{Sized, read}
use Rattle.rtl_flat.specs.Flows.{bit_at, is_place, may_select}
use Rattle.rtl_flat.specs.Process.{Selection, BitAt, Task, selection}
use Rattle.rtl_rule.specs.declared.finding.Finding.{Finding}
use Rattle.rtl_rule.proofs.Below.{same_by, some_at, some_found}
use Rattle.rtl_rule.specs.Parts.{At, some_below, within}
use Rattle.rtl_flat.specs.Flats.{Flat, widths}
use Rattle.check_chains.specs.rtl_scan.declared.bits.Row.{Row}
use Rattle.check_chains.specs.rtl_scan.Sets.{has_row}
use Rattle.check_chains.proofs.rtl_scan_proofs.Users.{some_bit_is}
use Rattle.check_unknown.specs.Lists.{below, miss_at, misses, misses_found}
use Rattle.check_unknown.specs.Unknowns.{AreSelectRange, IsSelectRange, Pick, may_miss, pick_in, pick_of, picks, select_range_at}
use Rattle.check_unknown.proofs.Lists.{found_of}

-- ---- what a read selects

pub pick_is : (w : ℕ) (s : Bool) (spot : Spot) (i : ℕ) (part : Select) → pick_in (Sized w s spot (read i part)) ≡ pick_of i spot (selection part)
pick_is w s spot i select.Whole = refl
pick_is w s spot i (select.Bit low (index.Fixed k)) = refl
pick_is w s spot i (select.Bit low (index.Computed' p w' s' a at)) = refl
pick_is w s spot i (select.Part low width) = refl

-- ---- numbers below a limit

-- a fixed index is outside where it selects no bit
pub fixed_misses : (ws : ℕ → ℕ) (i low : ℕ) (index : _) (row : Row) → ((s k : ℕ) → has_row row s k ≡ bit_at ws i low index s k) → (row.mask == 0) ≡ not (some_below (ws i) (is_place low index))
fixed_misses ws i low index row are = by_none (row.mask == 0) (some_below (ws i) (is_place low index)) refl refl
  where
    by_none : (none some : Bool) → (row.mask == 0) ≡ none → some_below (ws i) (is_place low index) ≡ some → none ≡ not some
    by_none true false e h = refl
    by_none false true e h = refl
    by_none true true e h =
        let found = some_found (ws i) (is_place low index) h in
        let k = found.number in
        let below = found.below in
        let is = found.is in
        let bit : has_row row i k ≡ true
        = are i k ∙ and_from (i == i) (nat_lt k (ws i) && is_place low index k) (eq-eqb i i refl) (and_from (nat_lt k (ws i)) (is_place low index k) (lt-ltb k (ws i) below) is) in
        let one = (and_parts (i == row.signal.0) (is_one_at row.mask k) bit).1 in
        let some = (some_bit_is row.mask).1 (k, one) in
        absurd (false≢true (sym (ap not e) ∙ some))
    by_none false false e h =
        let (k, one) = (some_bit_is row.mask).0 (ap not e) in
        let bit : bit_at ws i low index row.signal.0 k ≡ true
        = sym (are row.signal.0 k) ∙ and_from (row.signal.0 == row.signal.0) (is_one_at row.mask k) (eq-eqb row.signal.0 row.signal.0 refl) one in
        let (below, place) = and_parts (nat_lt k (ws i)) (is_place low index k) (and_parts (row.signal.0 == i) (nat_lt k (ws i) && is_place low index k) bit).1 in
        absurd (false≢true (sym h ∙ some_at (ws i) (is_place low index) k (ltb-true k (ws i) below) place))

pub fixed_case : (ws : ℕ → ℕ) (i low : ℕ) (k : ℤ) (row : Row) (part : Select) (which : Index) → part ≡ select.Bit low which → which ≡ index.Fixed k → ((s j : ℕ) → has_row row s j ≡ may_select ws i (selection part) s j) → (spot : Spot) → (row.mask == 0) ≡ misses ws (pick_of i spot (selection part))
fixed_case ws i low k row part which is fixed are spot =
    let same : selection part ≡ BitAt low k = ap selection (is ∙ ap (select.Bit low) fixed) in
    fixed_misses ws i low k row (λ s j. are s j ∙ ap (λ (one : Selection). may_select ws i one s j) same)
    ∙ sym (ap (λ (one : Selection). misses ws (pick_of i spot one)) same)

-- ---- numbers of so many bits

pub many_bits : (width bits : ℕ) → 8 ≤ bits → width < 256 → leb 8 bits ≡ nat_lt width (2 ^ bits)
many_bits width bits many small =
    let most : 2 ^ 8 ≤ 2 ^ bits = pow-le-pow_right (let e : 0 < 2 = omega arith in e) many in
    let below : width < 2 ^ bits = omega (arith, most, small) in
    le-leb 8 bits many ∙ sym (lt-ltb width (2 ^ bits) below)

pub few_bits : (width bits : ℕ) → (width / 2 ^ bits == 0) ≡ nat_lt width (2 ^ bits)
few_bits width bits =
    let some : 0 < 2 ^ bits = one-le-pow bits 2 (let e : 0 < 2 = omega arith in e) in
    let means = div-lt_iff_lt-mul {k = 2 ^ bits} {x = width} {y = 1} some in
    same_by (width / 2 ^ bits == 0) (nat_lt width (2 ^ bits))
    (λ h. let none = eqb-true (width / 2 ^ bits) 0 h in let below = means.0 (let e : width / 2 ^ bits < 1 = omega (arith, none) in e) in lt-ltb width (2 ^ bits) (omega (arith, below)))
    (λ h. let below = ltb-true width (2 ^ bits) h in let none = means.1 (let e : width < 1 * 2 ^ bits = omega (arith, below) in e) in eq-eqb (width / 2 ^ bits) 0 (omega (arith, none)))

-- ---- one after another

module _ (ws : ℕ → ℕ) (instance : ℕ) where
  abbrev Found : List Pick → List Finding
  Found = misses_found ws instance

  pub misses_both : (a b : List Pick) → misses_found ws instance (a ++ b) ≡ misses_found ws instance a ++ misses_found ws instance b
  misses_both a b =
      ap (map (miss_at instance)) (filter-append (λ (one : Pick). may_miss ws one one.index) a b)
      ∙ map-append (miss_at instance) (filter (λ (one : Pick). may_miss ws one one.index) a) (filter (λ (one : Pick). may_miss ws one one.index) b)

  pub miss_none : (o : Option Pick) (fs : List Finding) → misses ws o ≡ false → fs ≡ fs ++ misses_found ws instance (cons_option o [])
  miss_none None fs h = sym (append-nil fs)
  miss_none (Some one) fs h =
      sym (ap (λ t. fs ++ map (miss_at instance) (cond t (one ∷ []) [])) h ∙ append-nil fs)

  pub miss_one : (o : Option Pick) (fs : List Finding) (f : Finding) → misses ws o ≡ true → ((one : Pick) → o ≡ Some one → f ≡ miss_at instance one) → fs ++ f ∷ [] ≡ fs ++ misses_found ws instance (cons_option o [])
  miss_one None fs f h is = absurd (false≢true h)
  miss_one (Some one) fs f h is =
      ap (λ g. fs ++ g ∷ []) (is one refl) ∙ sym (ap (λ t. fs ++ map (miss_at instance) (cond t (one ∷ []) [])) h)

  module _ {A B : Type 0} (g : B → Option Pick) (view : A → B) (xs : List A) where
    pub misses_more : (i : ℕ) (x : A) → i < length xs → x ≡ get_or xs i x → (first old new : List Finding) → old ≡ first ++ misses_found ws instance (filter_map g (map view (take i xs))) → new ≡ old ++ misses_found ws instance (cons_option (g (view x)) []) → new ≡ first ++ misses_found ws instance (filter_map g (map view (take (i + 1) xs)))
    misses_more i x inside is first old new before more =
        let shown = λ (ys : List A). filter_map g (map view ys) in
        let whole : shown (take (i + 1) xs) ≡ shown (take i xs) ++ cons_option (g (view x)) []
        = ap shown (take_more xs i x inside ∙ ap (λ y. take i xs ++ y ∷ []) (sym is)) ∙ ap (filter_map g) (map-append view (take i xs) (x ∷ [])) ∙ filter_map-append g (map view (take i xs)) (view x ∷ []) in
        more ∙ ap (λ fs. fs ++ misses_found ws instance (cons_option (g (view x)) [])) before
        ∙ append_assoc first (misses_found ws instance (shown (take i xs))) (misses_found ws instance (cons_option (g (view x)) []))
        ∙ ap (λ fs. first ++ fs) (sym (misses_both (shown (take i xs)) (cons_option (g (view x)) [])) ∙ sym (ap (misses_found ws instance) whole))

  -- three additions
  pub misses_three : (a b c : List Pick) (fs one two three : List Finding) → one ≡ fs ++ misses_found ws instance a → two ≡ one ++ misses_found ws instance b → three ≡ two ++ misses_found ws instance c → three ≡ fs ++ misses_found ws instance (a ++ b ++ c)
  misses_three a b c fs one two three e f g =
      let left = misses_found ws instance a in
      let right = misses_found ws instance b in
      let last = misses_found ws instance c in
      g ∙ ap (λ xs. xs ++ last) (f ∙ ap (λ xs. xs ++ right) e) ∙ ap (λ xs. xs ++ last) (append_assoc fs left right) ∙ append_assoc fs (left ++ right) last
      ∙ ap (λ xs. fs ++ xs) (ap (λ xs. xs ++ last) (sym (misses_both a b)) ∙ sym (misses_both (a ++ b) c))

-- ---- all processes

cond_sites : {A : Type 0} (at : At A → Finding) (f : A → Finding) (one : ℕ × Task) (x : A) → at (within one x) ≡ f x → (b : Bool) (sites : List (At A)) (kept : List A) → map f kept ≡ map at sites → map f (cond b (x ∷ kept) kept) ≡ map at (cond b (within one x ∷ sites) sites)
cond_sites at f one x same true sites kept e =
    ap (λ g. g ∷ map f kept) (sym same) ∙ ap (λ gs. at (within one x) ∷ gs) e
cond_sites at f one x same false sites kept e = e

sites_picked : {A : Type 0} (test : A → Bool) (at : At A → Finding) (f : A → Finding) (one : ℕ × Task) → ((x : A) → at (within one x) ≡ f x) → (xs : List A) → map f (filter test xs) ≡ map at (filter (λ site. test site.it) (map (within one) xs))
sites_picked test at f one same [] = refl
sites_picked test at f one same (x ∷ xs) =
    cond_sites at f one x (same x) (test x) (filter (λ site. test site.it) (map (within one) xs)) (filter test xs) (sites_picked test at f one same xs)

pub misses_all : (d : Flat) (n : ℕ) → n ≡ length d.tasks → (found : List Finding) → found ≡ below (λ p one. misses_found (widths d) one.instance (picks one.does)) 0 d.tasks n → AreSelectRange d found
misses_all d n all found is =
    found_of (IsSelectRange d) (λ site. may_miss (widths d) site.it site.it.index) (λ site. (λ h. h, λ h. h)) select_range_at picks d (λ p one. misses_found (widths d) one.instance (picks one.does))
    (λ p one. sites_picked (λ (pick : Pick). may_miss (widths d) pick pick.index) select_range_at (miss_at one.instance) (p, one) (λ x. refl) (picks one.does))
    n all found is
