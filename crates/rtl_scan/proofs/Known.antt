-- Which values known labels match.
use Rattle.std.proofs.Common.{ℕ, zero, suc, ◌≡◌, ◌∙◌, ◌<◌, ◌≤◌, ◌+◌, ◌-◌, ◌*◌, arith, Bool, true, false, cond, ◌&&◌, ◌||◌, List, [], ◌∷◌, ◌++◌, length, take, drop, get_or, replicate, refl, sym, ap, inl, inr, min, ◌^◌}
use Rattle.std.specs.Prelude.{◌==◌, nat_le}
use Rattle.std.specs.List.{list_any}
use Rattle.std.proofs.lemmas.Bool.{cases_eq, eq-eqb, ne_eqb, le-leb}
use Rattle.std.proofs.lemmas.List.{drop_all, length-append}
use Rattle.std.proofs.Math.ListN.{length-take, length-replicate}
use Rattle.std.specs.Ordering.{nat_cmp}
use Rattle.std.specs.BTreeSet.{contains}
use Rattle.rtl_bits.specs.declared.Bit.{Bit}
use Rattle.rtl_bits.specs.declared.Bit.TheVariants as bit
use Rattle.rtl_bits.specs.Bit.{is_one, is_unknown}
use Rattle.rtl_bits.specs.Bits.{has_unknown, number, all_with, same_bit, matches_but_z, may_equal, top_bit, extended, bits_of}
use Rattle.rtl_flat.specs.declared.act.CaseKind.{CaseKind}
use Rattle.rtl_flat.specs.declared.act.CaseKind.TheVariants as kind
use Rattle.rtl_flat.specs.Flows.{literal_matches, each_below, cover}
use Rattle.rtl_flat.specs.Labels.{label_matches}
use Rattle.rtl_bits.specs.Inside.{length-tabulate}
use Rattle.rtl_bits.proofs.Known.{has_unknown-bits_of}
use Rattle.rtl_scan.specs.declared.values.Labels.{Labels}
use Rattle.rtl_scan.specs.Values.{matches_some, GetsLabel, AreSorted}
use Rattle.rtl_scan.proofs.Labels.{left_at}

same_test : (a b m n : ℕ) → (a ≡ b → m ≡ n) → (m ≡ n → a ≡ b) → (a == b) ≡ (m == n)
same_test a b m n to from =
    elim (cases_eq a b) as (λ _. (a == b) ≡ (m == n)) [
      | inl e ↦ eq-eqb a b e ∙ sym (eq-eqb m n (to e))
      | inr other ↦ ne_eqb a b other ∙ sym (ne_eqb m n (λ e. other (from e)))
    ]

either_not : (a b : Bool) → (a || b) ≡ false → (a ≡ false) × (b ≡ false)
either_not true b h = absurd (cc)
either_not false b h = (refl, h)

doubled : (a b i : ℕ) → (a == b) ≡ (a * 2 + i == b * 2 + i)
doubled a b i = same_test a b (a * 2 + i) (b * 2 + i) (λ e. omega arith) (λ e. omega arith)

known_same : (x y : Bit) (a b : ℕ) → is_unknown x ≡ false → is_unknown y ≡ false → (same_bit x y && (a == b)) ≡ (a * 2 + cond (is_one x) 1 0 == b * 2 + cond (is_one y) 1 0)
known_same bit.Zero bit.Zero a b h k = doubled a b 0
known_same bit.Zero bit.One a b h k = sym (ne_eqb (a * 2 + 0) (b * 2 + 1) (λ e. omega arith))
known_same bit.One bit.Zero a b h k = sym (ne_eqb (a * 2 + 1) (b * 2 + 0) (λ e. omega arith))
known_same bit.One bit.One a b h k = doubled a b 1
known_same bit.X y a b h k = absurd (cc)
known_same bit.Z y a b h k = absurd (cc)
known_same bit.Zero bit.X a b h k = absurd (cc)
known_same bit.Zero bit.Z a b h k = absurd (cc)
known_same bit.One bit.X a b h k = absurd (cc)
known_same bit.One bit.Z a b h k = absurd (cc)

-- a test that asks for the same known bits asks for the same number
all_known : (f : Bit → Bit → Bool) → ((x y : Bit) → is_unknown x ≡ false → is_unknown y ≡ false → f x y ≡ same_bit x y) → (a b : List Bit) → length a ≡ length b → has_unknown a ≡ false → has_unknown b ≡ false → all_with f a b ≡ (number a == number b)
all_known f agree [] [] same h k = refl
all_known f agree [] (y ∷ b) same h k = absurd (omega arith)
all_known f agree (x ∷ a) [] same h k = absurd (omega arith)
all_known f agree (x ∷ a) (y ∷ b) same h k =
    let (hx, ha) = either_not (is_unknown x) (has_unknown a) h in
    let (ky, kb) = either_not (is_unknown y) (has_unknown b) k in
    ap (λ t. t && all_with f a b) (agree x y hx ky) ∙ ap (λ t. same_bit x y && t) (all_known f agree a b (omega arith) ha kb)
    ∙ known_same x y (number a) (number b) hx ky

but_z : (x y : Bit) → is_unknown x ≡ false → is_unknown y ≡ false → matches_but_z x y ≡ same_bit x y
but_z bit.Zero bit.Zero h k = refl
but_z bit.Zero bit.One h k = refl
but_z bit.One bit.Zero h k = refl
but_z bit.One bit.One h k = refl
but_z bit.X y h k = absurd (cc)
but_z bit.Z y h k = absurd (cc)
but_z bit.Zero bit.X h k = absurd (cc)
but_z bit.Zero bit.Z h k = absurd (cc)
but_z bit.One bit.X h k = absurd (cc)
but_z bit.One bit.Z h k = absurd (cc)

may : (x y : Bit) → is_unknown x ≡ false → is_unknown y ≡ false → may_equal x y ≡ same_bit x y
may bit.Zero bit.Zero h k = refl
may bit.Zero bit.One h k = refl
may bit.One bit.Zero h k = refl
may bit.One bit.One h k = refl
may bit.X y h k = absurd (cc)
may bit.Z y h k = absurd (cc)
may bit.Zero bit.X h k = absurd (cc)
may bit.Zero bit.Z h k = absurd (cc)
may bit.One bit.X h k = absurd (cc)
may bit.One bit.Z h k = absurd (cc)

known_label : (k : CaseKind) (value label : List Bit) → length value ≡ length label → has_unknown value ≡ false → has_unknown label ≡ false → label_matches k value label ≡ (number value == number label)
known_label kind.Plain value label same h l = all_known same_bit (λ x y hx hy. refl) value label same h l
known_label kind.Z value label same h l = all_known matches_but_z but_z value label same h l
known_label kind.X value label same h l = all_known may_equal may value label same h l

pub known_matches : (k : CaseKind) (value label : List Bit) → length value ≡ length label → has_unknown value ≡ false → has_unknown label ≡ false → literal_matches k value label ≡ (number value == number label)
known_matches k value label same h l =
    ap (λ t. t && label_matches k value label) (eq-eqb (length value) (length label) same) ∙ known_label k value label same h l

-- ---- extended values have no x and no z

unknown_append : (a b : List Bit) → has_unknown a ≡ false → has_unknown b ≡ false → has_unknown (a ++ b) ≡ false
unknown_append [] b h k = k
unknown_append (x ∷ a) b h k =
    let (hx, ha) = either_not (is_unknown x) (has_unknown a) h in
    ap (λ t. t || has_unknown (a ++ b)) hx ∙ unknown_append a b ha k

unknown_take : (n : ℕ) (a : List Bit) → has_unknown a ≡ false → has_unknown (take n a) ≡ false
unknown_take zero a h = refl
unknown_take (suc n) [] h = refl
unknown_take (suc n) (x ∷ a) h =
    let (hx, ha) = either_not (is_unknown x) (has_unknown a) h in
    ap (λ t. t || has_unknown (take n a)) hx ∙ unknown_take n a ha

unknown_fill : (n : ℕ) (b : Bit) → is_unknown b ≡ false → has_unknown (replicate n b) ≡ false
unknown_fill zero b h = refl
unknown_fill (suc n) b h = ap (λ t. t || has_unknown (replicate n b)) h ∙ unknown_fill n b h

unknown_at : (a : List Bit) (i : ℕ) (d : Bit) → i < length a → has_unknown a ≡ false → is_unknown (get_or a i d) ≡ false
unknown_at [] i d inside h = absurd (omega arith)
unknown_at (x ∷ a) zero d inside h = (either_not (is_unknown x) (has_unknown a) h).0
unknown_at (x ∷ a) (suc i) d inside h = unknown_at a i d (omega arith) (either_not (is_unknown x) (has_unknown a) h).1

pub extended_known : (width : ℕ) (signed : Bool) (a : List Bit) → 1 ≤ length a → has_unknown a ≡ false → has_unknown (extended width signed a) ≡ false
extended_known width signed a some h =
    unknown_append (take width a) (replicate (width - length a) (cond signed (top_bit a) bit.Zero)) (unknown_take width a h) (unknown_fill (width - length a) (cond signed (top_bit a) bit.Zero) (fill signed))
  where
    fill : (s : Bool) → is_unknown (cond s (top_bit a) bit.Zero) ≡ false
    fill true = unknown_at a (length a - 1) bit.X (omega arith) h
    fill false = refl

-- ---- sets of numbers beside other labels

either_next : (a b c d : Bool) → a ≡ cond c true b → (a || d) ≡ ((b || d) || c)
either_next a b true d e = ap (λ t. t || d) e ∙ sym (or_true (b || d))
  where
    or_true : (x : Bool) → (x || true) ≡ true
    or_true true = refl
    or_true false = refl
either_next a b false d e = ap (λ t. t || d) e ∙ or_false (b || d)
  where
    or_false : (x : Bool) → x ≡ (x || false)
    or_false true = refl
    or_false false = refl

pub any_push : (test : List Bit → Bool) (xs : List (List Bit)) (x : List Bit) → list_any test (xs ++ x ∷ []) ≡ (list_any test xs || test x)
any_push test [] x = by (test x)
  where
    by : (b : Bool) → (b || false) ≡ b
    by true = refl
    by false = refl
any_push test (y ∷ xs) x = ap (λ t. test y || t) (any_push test xs x) ∙ assoc (test y) (list_any test xs) (test x)
  where
    assoc : (a b c : Bool) → (a || (b || c)) ≡ ((a || b) || c)
    assoc true b c = refl
    assoc false b c = refl

pub gets_number : (width : ℕ) (label : List Bit) (old new : Labels) → length label ≡ width → has_unknown label ≡ false → ((n : ℕ) → contains nat_cmp new.numbers n ≡ cond (n == number label) true (contains nat_cmp old.numbers n)) → new.others.items ≡ old.others.items → GetsLabel width label old new
gets_number width label old new long known numbers same = record {
  each = λ k value fits plain.
      ap (λ xs. contains nat_cmp new.numbers (number value) || list_any (literal_matches k value) xs) same
      ∙ either_next (contains nat_cmp new.numbers (number value)) (contains nat_cmp old.numbers (number value)) (number value == number label) (list_any (literal_matches k value) old.others.items) (numbers (number value))
      ∙ ap (λ t. matches_some k value old || t) (sym (known_matches k value label (fits ∙ sym long) plain known));
}

or_assoc : (a b c : Bool) → (a || (b || c)) ≡ ((a || b) || c)
or_assoc true b c = refl
or_assoc false b c = refl

pub gets_other : (width : ℕ) (label : List Bit) (old new : Labels) → new.numbers ≡ old.numbers → new.others.items ≡ old.others.items ++ label ∷ [] → GetsLabel width label old new
gets_other width label old new same pushed = record {
  each = λ k value fits plain.
      ap (λ ns. contains nat_cmp ns (number value) || list_any (literal_matches k value) new.others.items) same
      ∙ ap (λ xs. contains nat_cmp old.numbers (number value) || list_any (literal_matches k value) xs) pushed
      ∙ ap (λ t. contains nat_cmp old.numbers (number value) || t) (any_push (literal_matches k value) old.others.items label)
      ∙ or_assoc (contains nat_cmp old.numbers (number value)) (list_any (literal_matches k value) old.others.items) (literal_matches k value label);
}

pub sorted_step : (width : ℕ) (labels : List (List Bit)) (i : ℕ) (x : List Bit) → i < length labels → x ≡ get_or labels i x → (old new : Labels) → GetsLabel width x old new → (k : CaseKind) (value : List Bit) → length value ≡ width → has_unknown value ≡ false → (all : Bool) → (matches_some k value old || list_any (literal_matches k value) (drop i labels)) ≡ all → (matches_some k value new || list_any (literal_matches k value) (drop (i + 1) labels)) ≡ all
sorted_step width labels i x inside read old new gets k value fits plain all h =
    ap (λ t. t || list_any (literal_matches k value) (drop (i + 1) labels)) (gets.each k value fits plain)
    ∙ sym (or_assoc (matches_some k value old) (literal_matches k value x) (list_any (literal_matches k value) (drop (i + 1) labels)))
    ∙ ap (λ xs. matches_some k value old || list_any (literal_matches k value) xs) (sym (left_at labels i x inside read)) ∙ h

pub sorted_end : (labels : List (List Bit)) (i : ℕ) (sorted : Labels) (k : CaseKind) (value : List Bit) (all : Bool) → length labels ≤ i → (matches_some k value sorted || list_any (literal_matches k value) (drop i labels)) ≡ all → matches_some k value sorted ≡ all
sorted_end labels i sorted k value all past h =
    or_false (matches_some k value sorted) ∙ ap (λ xs. matches_some k value sorted || list_any (literal_matches k value) xs) (sym (drop_all i labels past)) ∙ h
  where
    or_false : (x : Bool) → x ≡ (x || false)
    or_false true = refl
    or_false false = refl

length-bits_of : (own n : ℕ) → length (bits_of own n) ≡ own
length-bits_of own n = length-tabulate own _

length-extended : (width : ℕ) (signed : Bool) (a : List Bit) → length (extended width signed a) ≡ width
length-extended width signed a =
    let fill = replicate (width - length a) (cond signed (top_bit a) bit.Zero) in
    let front : length (take width a) ≡ min width (length a) = length-take width a in
    let back : length fill ≡ width - length a = length-replicate (width - length a) (cond signed (top_bit a) bit.Zero) in
    let both : length (extended width signed a) ≡ length (take width a) + length fill = length-append (take width a) fill in
    omega arith

pub covers_are : (k : CaseKind) (own width : ℕ) (signed : Bool) (labels : List (List Bit)) (sorted : Labels) → 1 ≤ own → own ≤ 16 → own ≤ width → width ≤ 128 → AreSorted width labels sorted → each_below (2 ^ own) (λ n. matches_some k (extended width signed (bits_of own n)) sorted) ≡ cover k own width signed labels
covers_are k own width signed labels sorted some few fits most are =
    ap (each_below (2 ^ own)) (λ i n. same n i)
    ∙ ap (λ b. b && (true && (true && (true && all)))) (sym (le-leb 1 own some))
    ∙ ap (λ b. nat_le 1 own && (b && (true && (true && all)))) (sym (le-leb own 16 few))
    ∙ ap (λ b. nat_le 1 own && (nat_le own 16 && (b && (true && all)))) (sym (le-leb own width fits))
    ∙ ap (λ b. nat_le 1 own && (nat_le own 16 && (nat_le own width && (b && all)))) (sym (le-leb width 128 most))
  where
    all : Bool
    all = each_below (2 ^ own) (λ n. list_any (literal_matches k (extended width signed (bits_of own n))) labels)

    same : (n : ℕ) → matches_some k (extended width signed (bits_of own n)) sorted ≡ list_any (literal_matches k (extended width signed (bits_of own n))) labels
    same n =
        let long = length-bits_of own n in
        are.each k (extended width signed (bits_of own n)) (length-extended width signed (bits_of own n)) (extended_known width signed (bits_of own n) (omega arith) (has_unknown-bits_of own n))
