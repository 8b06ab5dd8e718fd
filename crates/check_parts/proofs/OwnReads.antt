-- Expressions that read bits of signals, their own reads one by one.
use Rattle.std.proofs.Common.{ℕ, zero, suc, ◌≡◌, ◌∙◌, ◌+◌, ◌<◌, ◌≤◌, Bool, true, false, not, ◌&&◌, ◌||◌, List, [], ◌∷◌, ◌++◌, map, length, take, drop, get_or, replicate, Option, None, Some, refl, sym, ap, subst, inl, inr, arith, append_assoc}
use Rattle.std.specs.Prelude.{◌==◌, if◌then◌else◌, nat_lt, nat_le, slice_index_or}
use Rattle.std.specs.List.{All, list_any}
use Rattle.std.proofs.lemmas.Bool.{and_parts, and_from, eq-eqb, eqb-true, false≢true, lt-ltb, ltb-true, or_cases, or_left, or_right}
use Rattle.std.proofs.lemmas.List.{drop_all, length-replicate, take_more}
use Rattle.std.proofs.lemmas.List.Elements.{All-get_or}
use Rattle.rtl_bits.specs.declared.Bit.{Bit}
use Rattle.rtl_bits.specs.declared.Bit.TheVariants.{X}
use Rattle.rtl_bits.specs.Bits.{is_one_at}
use Rattle.text_ground.specs.declared.text.Spot.{Spot}
use Rattle.rtl_flat.specs.declared.expr.Index.TheVariants as index
use Rattle.rtl_flat.specs.declared.expr.Node.{Node, Row_of-SizedExpr, end_of-SizedExpr, more_of-SizedExpr}
use Rattle.rtl_flat.specs.declared.expr.Node.TheVariants as node
use Rattle.rtl_flat.specs.declared.expr.Select.{Select}
use Rattle.rtl_flat.specs.declared.expr.Select.TheVariants as select
use Rattle.rtl_flat.specs.declared.expr.SigId.{SigId}
use Rattle.rtl_flat.specs.declared.expr.SizedExpr.{SizedExpr}
use Rattle.rtl_flat.specs.declared.signal.Signal.{Signal}
use Rattle.rtl_flat.specs.Expression.{Tree, Sized, form, read, row, tree}
use Rattle.rtl_flat.specs.Flats.{Flat, widths}
use Rattle.rtl_flat.specs.Flows.{all_bits, bit_at, is_place, may_select, reads, span}
use Rattle.rtl_flat.specs.Paths.{BitSet, either, no_bit}
use Rattle.rtl_flat.specs.Process.{Selection, selection}
use Rattle.rtl_flat.specs.Process as part
use Rattle.rtl_flat.specs.Signs.{width_in}
use Rattle.rtl_flat.specs.Sizes.{IsSized}
use Rattle.rtl_flat.specs.Value.{store, value, widths as value_widths}
use Rattle.rtl_rule.specs.Parts.{constant_of, has_some, nodes, own_reads, reads_signal, unknowns}
use Rattle.rtl_rule.proofs.Below.{same_by, some_at, some_found}
use Rattle.rtl_scan.specs.declared.bits.Row.{Row}
use Rattle.rtl_scan.specs.Sets.{has_row}
use Rattle.rtl_scan.proofs.Labels.{left_at}
use Rattle.rtl_scan.proofs.Users.{some_bit_is}
use Rattle.check_parts.specs.Reads.{AreUnknowns, is_signal, meets}

-- ---- what an expression reads itself

module _ (ws : ℕ → ℕ) where
  own_is : (w : ℕ) (s : Bool) (at : Spot) (i : ℕ) (what : Select) → own_reads ws (Sized w s at (read i what)) ≡ may_select ws i (selection what)
  own_is w s at i select.Whole = refl
  own_is w s at i (select.Bit low (index.Fixed k)) = refl
  own_is w s at i (select.Bit low (index.Computed' p w' s' a at')) = refl
  own_is w s at i (select.Part low width) = refl

  -- a bit that is selected lies in the signal
  spanned : (i low high s k : ℕ) → span ws i low high s k ≡ true → (s ≡ i) × (k < ws s)
  spanned i low high s k h =
      let (same, inner) = and_parts (s == i) (nat_le low k && (nat_lt k high && nat_lt k (ws i))) h in
      let (above, rest) = and_parts (nat_le low k) (nat_lt k high && nat_lt k (ws i)) inner in
      let (below, inside) = and_parts (nat_lt k high) (nat_lt k (ws i)) rest in
      let is = eqb-true s i same in
      (is, subst (λ j. k < ws j) (sym is) (ltb-true k (ws i) inside))

  selected_in : (i : ℕ) (what : Selection) (s k : ℕ) → may_select ws i what s k ≡ true → (s ≡ i) × (k < ws s)
  selected_in i part.Whole s k h = spanned i 0 (ws i) s k h
  selected_in i (part.BitAt low index) s k h =
      let (same, inner) = and_parts (s == i) (nat_lt k (ws i) && is_place low index k) h in
      let (inside, place) = and_parts (nat_lt k (ws i)) (is_place low index k) inner in
      let is = eqb-true s i same in
      (is, subst (λ j. k < ws j) (sym is) (ltb-true k (ws i) inside))
  selected_in i (part.BitBy low index) s k h = spanned i 0 (ws i) s k h
  selected_in i (part.Part low width) s k h = spanned i low (low + width) s k h

  own_none : (w : ℕ) (s : Bool) (at : Spot) {m : _} (parts : Row_of-SizedExpr m) → own_reads ws (Sized w s at (row parts)) ≡ no_bit
  own_none w s at end_of-SizedExpr = refl
  own_none w s at (more_of-SizedExpr w' s' a at' others) = refl

  no_own : (w : ℕ) (s : Bool) (at : Spot) (n : Node) → ((i : SigId) (what : Select) → n ≡ node.Read i what → ⊥) → own_reads ws (Sized w s at (form n)) ≡ no_bit
  no_own w s at (node.Read i what) other = absurd (other i what refl)
  no_own w s at (node.Concat' shape parts) other = own_none w s at parts
  no_own w s at _ other = refl

  -- an expression that is no signal nor a part of one
  pub none_own : (e : SizedExpr) → ((i : SigId) (what : Select) → e.node ≡ node.Read i what → ⊥) → (s : ℕ) → has_some ws (own_reads ws (tree e)) s ≡ false
  none_own e other s =
      ap (λ (bits : BitSet). has_some ws bits s) (no_own e.width e.signed e.spot e.node other)
      ∙ same_by (has_some ws no_bit s) false (λ h. absurd (false≢true (some_found (ws s) (no_bit s) h).is)) (λ h. absurd (false≢true h))

  -- one that is
  pub read_own : (e : SizedExpr) (i : SigId) (what : Select) → e.node ≡ node.Read i what → (found : Option SigId) → ((s : ℕ) → has_some ws (may_select ws i.0 (selection what)) s ≡ is_signal found s) → (s : ℕ) → has_some ws (own_reads ws (tree e)) s ≡ is_signal found s
  read_own e i what is found are s =
      ap (λ (bits : BitSet). has_some ws bits s)
      (ap (λ (n : Node). own_reads ws (Sized e.width e.signed e.spot (form n))) is ∙ own_is e.width e.signed e.spot i.0 what)
      ∙ are s

  -- a select has a bit of its signal where its row has one
  pub row_selects : (i : ℕ) (what : Selection) (row : Row) → ((s k : ℕ) → has_row row s k ≡ may_select ws i what s k) → (s : ℕ) → has_some ws (may_select ws i what) s ≡ (not (row.mask == 0) && (i == s))
  row_selects i what row are s =
      same_by (has_some ws (may_select ws i what) s) (not (row.mask == 0) && (i == s))
      (λ h.
      let one = some_found (ws s) (may_select ws i what s) h in
      let (same, inside) = selected_in i what s one.number one.is in
      let bit = are s one.number ∙ one.is in
      and_from (not (row.mask == 0)) (i == s) ((some_bit_is row.mask).1 (one.number, (and_parts (s == row.signal.0) (is_one_at row.mask one.number) bit).1)) (eq-eqb i s (sym same)))
      (λ h.
      let (some, same) = and_parts (not (row.mask == 0)) (i == s) h in
      let (k, one) = (some_bit_is row.mask).0 some in
      let bit : may_select ws i what row.signal.0 k ≡ true
      = sym (are row.signal.0 k) ∙ and_from (row.signal.0 == row.signal.0) (is_one_at row.mask k) (eq-eqb row.signal.0 row.signal.0 refl) one in
      let (is, inside) = selected_in i what row.signal.0 k bit in
      let there : row.signal.0 ≡ s = is ∙ eqb-true i s same in
      subst (λ j. has_some ws (may_select ws i what) j ≡ true) there
      (some_at (ws row.signal.0) (may_select ws i what row.signal.0) k inside bit))

-- ---- expressions that read a bit of a signal that passes a test

module _ (ws : ℕ → ℕ) (n : ℕ) (test : ℕ → Bool) where
  abbrev Mark : BitSet → ℕ → Bool
  Mark bits s = test s && has_some ws bits s

  -- a bit of a signal that is marked
  pub record IsMet (bits : BitSet) : Type 0 where
    pub signal : ℕ
    pub bit : ℕ
    pub there : signal < n
    pub marked : test signal ≡ true
    pub inside : bit < ws signal
    pub has : bits signal bit ≡ true

  pub met : (bits : BitSet) → meets ws n test bits ≡ true → IsMet bits
  met bits h =
      let found = some_found n (Mark bits) h in
      let s = found.number in
      let (marked, some) = and_parts (test s) (has_some ws bits s) found.is in
      let one = some_found (ws s) (bits s) some in
      record { signal = s; bit = one.number; there = found.below; marked = marked; inside = one.below; has = one.is }

  pub meet : (bits : BitSet) → IsMet bits → meets ws n test bits ≡ true
  meet bits m =
      some_at (n) (Mark bits) m.signal m.there (and_from (test m.signal) (has_some ws bits m.signal) m.marked (some_at (ws m.signal) (bits m.signal) m.bit m.inside m.has))

  pub meets_as : (a b : BitSet) → ((s k : ℕ) → k < ws s → a s k ≡ b s k) → meets ws n test a ≡ meets ws n test b
  meets_as a b same =
      same_by (meets ws n test a) (meets ws n test b)
      (λ h. let m = met a h in meet b (record { signal = m.signal; bit = m.bit; there = m.there; marked = m.marked; inside = m.inside; has = sym (same m.signal m.bit m.inside) ∙ m.has }))
      (λ h. let m = met b h in meet a (record { signal = m.signal; bit = m.bit; there = m.there; marked = m.marked; inside = m.inside; has = same m.signal m.bit m.inside ∙ m.has }))

  met_left : (a b : BitSet) → IsMet a → IsMet (either a b)
  met_left a b m =
      record { signal = m.signal; bit = m.bit; there = m.there; marked = m.marked; inside = m.inside; has = or_left (a m.signal m.bit) (b m.signal m.bit) m.has }

  met_right : (a b : BitSet) → IsMet b → IsMet (either a b)
  met_right a b m =
      record { signal = m.signal; bit = m.bit; there = m.there; marked = m.marked; inside = m.inside; has = or_right (a m.signal m.bit) (b m.signal m.bit) m.has }

  met_either : (a b : BitSet) → IsMet (either a b) → (meets ws n test a || meets ws n test b) ≡ true
  met_either a b m =
      elim (or_cases (a m.signal m.bit) (b m.signal m.bit) m.has) [
        | inl left ↦ or_left (meets ws n test a) (meets ws n test b) (meet a (record { signal = m.signal; bit = m.bit; there = m.there; marked = m.marked; inside = m.inside; has = left }))
        | inr right ↦ or_right (meets ws n test a) (meets ws n test b) (meet b (record { signal = m.signal; bit = m.bit; there = m.there; marked = m.marked; inside = m.inside; has = right }))
      ]

  meets_either : (a b : BitSet) → meets ws n test (either a b) ≡ (meets ws n test a || meets ws n test b)
  meets_either a b =
      same_by (meets ws n test (either a b)) (meets ws n test a || meets ws n test b)
      (λ h. met_either a b (met (either a b) h))
      (λ h. elim (or_cases (meets ws n test a) (meets ws n test b) h) [
        | inl left ↦ meet (either a b) (met_left a b (met a left))
        | inr right ↦ meet (either a b) (met_right a b (met b right))
      ])

  meets_none : meets ws n test no_bit ≡ false
  meets_none =
      same_by (meets ws n test no_bit) false (λ h. absurd (false≢true (met no_bit h).has)) (λ h. absurd (false≢true h))

  -- ---- expressions

  abbrev Own : Tree → Bool
  Own one = meets ws n test (own_reads ws one)

  pub any_both : (xs ys : List Tree) → list_any Own (xs ++ ys) ≡ (list_any Own xs || list_any Own ys)
  any_both [] ys = refl
  any_both (x ∷ xs) ys =
      ap (λ b. Own x || b) (any_both xs ys) ∙ or_assoc (Own x) (list_any Own xs) (list_any Own ys)
    where
      or_assoc : (a b c : Bool) → (a || (b || c)) ≡ ((a || b) || c)
      or_assoc true b c = refl
      or_assoc false b c = refl

  -- of two operands
  two : (xs ys : List Tree) (a b : BitSet) → meets ws n test a ≡ list_any Own xs → meets ws n test b ≡ list_any Own ys → meets ws n test (either a b) ≡ list_any Own (xs ++ ys)
  two xs ys a b e f =
      meets_either a b ∙ ap (λ t. t || meets ws n test b) e ∙ ap (λ t. list_any Own xs || t) f ∙ sym (any_both xs ys)

  or_swap : (a b : Bool) → (a || b) ≡ (b || a)
  or_swap true true = refl
  or_swap true false = refl
  or_swap false true = refl
  or_swap false false = refl

  -- without own reads
  plain : (a : BitSet) (xs : List Tree) → meets ws n test a ≡ list_any Own xs → meets ws n test a ≡ (meets ws n test no_bit || list_any Own xs)
  plain a xs e = e ∙ sym (ap (λ t. t || list_any Own xs) meets_none)

  mutual
    form_reads : (w : ℕ) (s : Bool) (at : Spot) (a : Node) → meets ws n test (reads ws (form a)) ≡ list_any Own (nodes (Sized w s at (form a)))
    form_reads w s at (node.Literal bits) = plain no_bit [] meets_none
    form_reads w s at (node.Read i select.Whole) = or_swap false (meets ws n test (all_bits ws i.0))
    form_reads w s at (node.Read i (select.Bit low (index.Fixed k))) = or_swap false (meets ws n test (bit_at ws i.0 low k))
    form_reads w s at (node.Read i (select.Bit low (index.Computed' p w1 s1 a at1))) =
        meets_either (reads ws (form a)) (all_bits ws i.0) ∙ ap (λ t. t || meets ws n test (all_bits ws i.0)) (form_reads w1 s1 at1 a) ∙ or_swap (list_any Own (nodes (Sized w1 s1 at1 (form a)))) (meets ws n test (all_bits ws i.0))
    form_reads w s at (node.Read i (select.Part low width)) = or_swap false (meets ws n test (span ws i.0 low (low + width)))
    form_reads w s at (node.Turned' operator p w1 s1 a at1) = plain (reads ws (form a)) (nodes (Sized w1 s1 at1 (form a))) (form_reads w1 s1 at1 a)
    form_reads w s at (node.Joined' operator p w1 s1 a at1 q w2 s2 b at2) =
        plain (either (reads ws (form a)) (reads ws (form b))) (nodes (Sized w1 s1 at1 (form a)) ++ nodes (Sized w2 s2 at2 (form b))) (two (nodes (Sized w1 s1 at1 (form a))) (nodes (Sized w2 s2 at2 (form b))) (reads ws (form a)) (reads ws (form b)) (form_reads w1 s1 at1 a) (form_reads w2 s2 at2 b))
    form_reads w s at (node.Compared' operator p w1 s1 a at1 q w2 s2 b at2) =
        plain (either (reads ws (form a)) (reads ws (form b))) (nodes (Sized w1 s1 at1 (form a)) ++ nodes (Sized w2 s2 at2 (form b))) (two (nodes (Sized w1 s1 at1 (form a))) (nodes (Sized w2 s2 at2 (form b))) (reads ws (form a)) (reads ws (form b)) (form_reads w1 s1 at1 a) (form_reads w2 s2 at2 b))
    form_reads w s at (node.Linked' operator p w1 s1 a at1 q w2 s2 b at2) =
        plain (either (reads ws (form a)) (reads ws (form b))) (nodes (Sized w1 s1 at1 (form a)) ++ nodes (Sized w2 s2 at2 (form b))) (two (nodes (Sized w1 s1 at1 (form a))) (nodes (Sized w2 s2 at2 (form b))) (reads ws (form a)) (reads ws (form b)) (form_reads w1 s1 at1 a) (form_reads w2 s2 at2 b))
    form_reads w s at (node.Folded' operator p w1 s1 a at1) = plain (reads ws (form a)) (nodes (Sized w1 s1 at1 (form a))) (form_reads w1 s1 at1 a)
    form_reads w s at (node.Shifted' operator p w1 s1 a at1 q w2 s2 b at2) =
        plain (either (reads ws (form a)) (reads ws (form b))) (nodes (Sized w1 s1 at1 (form a)) ++ nodes (Sized w2 s2 at2 (form b))) (two (nodes (Sized w1 s1 at1 (form a))) (nodes (Sized w2 s2 at2 (form b))) (reads ws (form a)) (reads ws (form b)) (form_reads w1 s1 at1 a) (form_reads w2 s2 at2 b))
    form_reads w s at (node.Chosen' p w1 s1 c at1 q w2 s2 a at2 r w3 s3 b at3) =
        let one = nodes (Sized w1 s1 at1 (form c)) in
        let other = nodes (Sized w2 s2 at2 (form a)) in
        let last = nodes (Sized w3 s3 at3 (form b)) in
        plain (either (reads ws (form c)) (either (reads ws (form a)) (reads ws (form b)))) (one ++ other ++ last)
        (two one (other ++ last) (reads ws (form c)) (either (reads ws (form a)) (reads ws (form b))) (form_reads w1 s1 at1 c) (two other last (reads ws (form a)) (reads ws (form b)) (form_reads w2 s2 at2 a) (form_reads w3 s3 at3 b)) ∙ sym (ap (list_any Own) (append_assoc one other last)))
    form_reads w s at (node.Concat' shape parts) = row_reads w s at parts
    form_reads w s at (node.Repeated' times p w1 s1 a at1) = plain (reads ws (form a)) (nodes (Sized w1 s1 at1 (form a))) (form_reads w1 s1 at1 a)
    form_reads w s at (node.Recast' p w1 s1 a at1) = plain (reads ws (form a)) (nodes (Sized w1 s1 at1 (form a))) (form_reads w1 s1 at1 a)

    -- a concatenation, where a row has no reads of its own
    row_reads : (w : ℕ) (s : Bool) (at : Spot) {m : _} (parts : Row_of-SizedExpr m) → meets ws n test (reads ws (row parts)) ≡ list_any Own (nodes (Sized w s at (row parts)))
    row_reads w s at end_of-SizedExpr = plain no_bit [] meets_none
    row_reads w s at (more_of-SizedExpr w1 s1 a at1 others) =
        let more = row_reads w s at others ∙ own_row w s at others in
        plain (either (reads ws (form a)) (reads ws (row others))) (nodes (Sized w1 s1 at1 (form a)) ++ nodes (row others)) (two (nodes (Sized w1 s1 at1 (form a))) (nodes (row others)) (reads ws (form a)) (reads ws (row others)) (form_reads w1 s1 at1 a) more)

    own_row : (w : ℕ) (s : Bool) (at : Spot) {m : _} (parts : Row_of-SizedExpr m) → list_any Own (nodes (Sized w s at (row parts))) ≡ list_any Own (nodes (row parts))
    own_row w s at end_of-SizedExpr = ap (λ t. t || false) meets_none
    own_row w s at (more_of-SizedExpr w1 s1 a at1 others) = ap (λ t. t || list_any Own (nodes (Sized w1 s1 at1 (form a)) ++ nodes (row others))) meets_none

  pub tree_reads : (e : SizedExpr) → meets ws n test (reads ws (tree e)) ≡ list_any Own (nodes (tree e))
  tree_reads e = form_reads e.width e.signed e.spot e.node

  -- whether an expression reads such a bit itself
  abbrev pub is_met : Option SigId → Bool
  is_met None = false
  is_met (Some signal) = nat_lt signal.0 n && test signal.0

  pub own_met : (e : Tree) (found : Option SigId) → ((s : ℕ) → has_some ws (own_reads ws e) s ≡ is_signal found s) → Own e ≡ is_met found
  own_met e None are =
      same_by (Own e) false
      (λ h.
      let m = met (own_reads ws e) h in
      absurd (false≢true (sym (are m.signal) ∙ some_at (ws m.signal) (own_reads ws e m.signal) m.bit m.inside m.has)))
      (λ h. absurd (false≢true h))
  own_met e (Some signal) are =
      same_by (Own e) (nat_lt signal.0 n && test signal.0)
      (λ h.
      let m = met (own_reads ws e) h in
      let same = eqb-true signal.0 m.signal (sym (are m.signal) ∙ some_at (ws m.signal) (own_reads ws e m.signal) m.bit m.inside m.has) in
      and_from (nat_lt signal.0 n) (test signal.0) (lt-ltb signal.0 n (subst (λ j. j < n) (sym same) m.there)) (subst (λ j. test j ≡ true) (sym same) m.marked))
      (λ h.
      let (below, passes) = and_parts (nat_lt signal.0 n) (test signal.0) h in
      let some = are signal.0 ∙ eq-eqb signal.0 signal.0 refl in
      some_at n (Mark (own_reads ws e)) signal.0 (ltb-true signal.0 n below) (and_from (test signal.0) (has_some ws (own_reads ws e) signal.0) passes some))

  -- one expression after another
  module _ {A : Type 0} (view : A → Tree) (items : List A) (i : ℕ) where
    pub any_found : (x : A) → i < length items → x ≡ get_or items i x → Own (view x) ≡ true → (total : Bool) → list_any Own (map view (drop i items)) ≡ total → total ≡ true
    any_found x inside is own total before =
        sym before ∙ ap (λ xs. list_any Own (map view xs)) (left_at items i x inside is) ∙ ap (λ t. t || list_any Own (map view (drop (i + 1) items))) own

    pub any_next : (x : A) → i < length items → x ≡ get_or items i x → Own (view x) ≡ false → (total : Bool) → list_any Own (map view (drop i items)) ≡ total → list_any Own (map view (drop (i + 1) items)) ≡ total
    any_next x inside is own total before =
        sym (ap (λ xs. list_any Own (map view xs)) (left_at items i x inside is) ∙ ap (λ t. t || list_any Own (map view (drop (i + 1) items))) own) ∙ before

    pub any_end : length items ≤ i → (total : Bool) → list_any Own (map view (drop i items)) ≡ total → total ≡ false
    any_end past total before =
        sym before ∙ ap (λ xs. list_any Own (map view xs)) (drop_all i items past)

-- ---- any signal

-- no signal past the last has a bit
pub width_inside : (signals : List Signal) (s : ℕ) → 1 ≤ width_in signals s → s < length signals
width_inside [] s some = absurd (omega (arith, some))
width_inside (x ∷ xs) zero some = omega arith
width_inside (x ∷ xs) (suc s) some = let below = width_inside xs s some in omega (arith, below)

abbrev pub any_signal : ℕ → Bool
any_signal s = true

-- an expression itself reads a bit of some signal
pub own_some : (d : Flat) (e : Tree) (signal : SigId) → ((s : ℕ) → has_some (widths d) (own_reads (widths d) e) s ≡ is_signal (Some signal) s) → meets (widths d) (length d.signals) any_signal (own_reads (widths d) e) ≡ true
own_some d e signal are =
    let one = some_found (widths d signal.0) (own_reads (widths d) e signal.0) (are signal.0 ∙ eq-eqb signal.0 signal.0 refl) in
    let below = one.below in
    let inside = width_inside d.signals signal.0 (omega (arith, below)) in
    own_met (widths d) (length d.signals) any_signal e (Some signal) are
    ∙ and_from (nat_lt signal.0 (length d.signals)) true (lt-ltb signal.0 (length d.signals) inside) refl

-- it reads none
pub own_no : (d : Flat) (e : Tree) → ((s : ℕ) → has_some (widths d) (own_reads (widths d) e) s ≡ is_signal None s) → meets (widths d) (length d.signals) any_signal (own_reads (widths d) e) ≡ false
own_no d e are = own_met (widths d) (length d.signals) any_signal e None are

-- ---- values of x alone

abbrev pub unknown_of : Signal → List Bit
unknown_of signal = replicate signal.width X

pub stored_unknown : (signals : List Signal) (i : ℕ) → slice_index_or (map unknown_of signals) i [] ≡ replicate (width_in signals i) X
stored_unknown [] i = refl
stored_unknown (s ∷ signals) zero = refl
stored_unknown (s ∷ signals) (suc i) = stored_unknown signals i

module _ (d : Flat) (values : List (List Bit)) (are : AreUnknowns d values) where
  same_store : store values ≡ unknowns d
  same_store = λ i s. are.each s i

  same_widths : value_widths values ≡ widths d
  same_widths = λ i s. (ap length (are.each s) ∙ length-replicate (widths d s) X) i

  -- what is sized over the design is sized over such values
  pub unknown_sized : (e : Tree) → IsSized (length d.signals) (widths d) e → IsSized (length values) (value_widths values) e
  unknown_sized e h =
      subst (λ n. IsSized n (value_widths values) e) (sym are.many) (subst (λ ws. IsSized (length d.signals) ws e) (sym same_widths) h)

  -- an expression that reads no signal is a constant
  pub constant_is : (e : Tree) → reads_signal d e ≡ false → (bits : List Bit) → bits ≡ value (store values) e → Some bits ≡ constant_of d e
  constant_is e none bits is =
      ap Some (is ∙ ap (λ v. value v e) same_store) ∙ sym (ap (λ b. if b then None else Some (value (unknowns d) e)) none)
