-- The rows of a map.
use Rattle.std.proofs.Common.{ℕ, ◌≡◌, ◌∙◌, ◌<◌, ◌≤◌, arith, Bool, true, false, cond, ◌&&◌, ◌||◌, List, [], ◌∷◌, ◌++◌, map, refl, sym, ap, inl, inr}
use Rattle.std.specs.Prelude.{◌==◌}
use Rattle.std.specs.List.{AllByRecursion}
use Rattle.std.specs.List.Sorted.{IsStrictlySortedBy}
use Rattle.std.specs.Ordering.{nat_cmp, is_eq}
use Rattle.std.proofs.Common.{Some}
use Rattle.std.specs.declared.cmp.Ordering.TheVariants.{Less, Equal, Greater}
use Rattle.std.specs.Cmp.{nat_cmp_is}
use Rattle.std.specs.Map.{lookup}
use Rattle.std.specs.Option.{unwrap_or}
use Rattle.std.specs.BTreeMap.{is_at}
use Rattle.std.proofs.lemmas.Bool.{cases_Bool, cases_order, eq-eqb, ne_eqb, eqb-true, eqb-false}
use Rattle.std.proofs.lemmas.Map.Keys.{sorted_head, sorted_tail}
use Rattle.rtl_bits.specs.Bits.{is_one_at}
use Rattle.rtl_bits.specs.Digits.{one_at-zero}
use Rattle.rtl_scan.specs.declared.bits.Row.{Row}
use Rattle.rtl_scan.proofs.Bools.{or_assoc}
use Rattle.rtl_scan.specs.Sets.{has_row, has_rows, row_of, rows_of, IsInOrder}

abbrev Entries : Type 0
Entries = List (ℕ × ℕ)

abbrev keys : Entries → List ℕ
keys es = map (λ e. e.0) es

less_from : (a b : ℕ) → nat_cmp a b ≡ Less → a < b
less_from a b h =
    elim (cases_order a b) [
      | inl e ↦ absurd (let is : Equal ≡ nat_cmp a b = nat_cmp_is a b Equal e in cc)
      | inr (inl below) ↦ below
      | inr (inr above) ↦ absurd (let is : Greater ≡ nat_cmp a b = nat_cmp_is a b Greater above in cc)
    ]

eq_test : (a b : ℕ) → is_eq (nat_cmp a b) ≡ (a == b)
eq_test a b =
    elim (cases_order a b) as (λ _. is_eq (nat_cmp a b) ≡ (a == b)) [
      | inl e ↦ ap is_eq (sym (nat_cmp_is a b Equal e)) ∙ sym (eq-eqb a b e)
      | inr (inl below) ↦ ap is_eq (sym (nat_cmp_is a b Less below)) ∙ sym (ne_eqb a b (λ e. omega arith))
      | inr (inr above) ↦ ap is_eq (sym (nat_cmp_is a b Greater above)) ∙ sym (ne_eqb a b (λ e. omega arith))
    ]

rows-append : (xs ys : List Row) (s k : ℕ) → has_rows (xs ++ ys) s k ≡ (has_rows xs s k || has_rows ys s k)
rows-append [] ys s k = refl
rows-append (x ∷ xs) ys s k = ap (λ t. has_row x s k || t) (rows-append xs ys s k) ∙ sym (or_assoc (has_row x s k) (has_rows xs s k) (has_rows ys s k))

row_has : (signal mask s k : ℕ) → has_rows (row_of signal mask) s k ≡ ((s == signal) && is_one_at mask k)
row_has signal mask s k =
    elim (cases_Bool (mask == 0)) as (λ _. has_rows (cond (mask == 0) [] (record { signal = record { 0 = signal }; mask = mask } ∷ [])) s k ≡ ((s == signal) && is_one_at mask k)) [
      | inl e ↦ rw e (sym (none (s == signal) (ap (λ m. is_one_at m k) (eqb-true mask 0 e) ∙ one_at-zero k)))
      | inr e ↦ rw e (or_false ((s == signal) && is_one_at mask k))
    ]
  where
    none : (a : Bool) → is_one_at mask k ≡ false → (a && is_one_at mask k) ≡ false
    none true h = h
    none false h = refl

    or_false : (a : Bool) → (a || false) ≡ a
    or_false true = refl
    or_false false = refl

-- no row of a signal whose key isn't there
absent : (signal k : ℕ) (es : Entries) → AllByRecursion (λ y. nat_cmp signal y ≡ Less) (keys es) → has_rows (rows_of es) signal k ≡ false
absent signal k [] h = refl
absent signal k (e ∷ es) h =
    let below : signal < e.0 = less_from signal e.0 h.0 in
    rows-append (row_of e.0 e.1) (rows_of es) signal k
    ∙ ap (λ t. t || has_rows (rows_of es) signal k) (row_has e.0 e.1 signal k ∙ ap (λ t. t && is_one_at e.1 k) (ne_eqb signal e.0 (λ same. omega arith)))
    ∙ absent signal k es h.1

pub rows_have : (es : Entries) → IsStrictlySortedBy nat_cmp (keys es) → (s k : ℕ) → has_rows (rows_of es) s k ≡ is_one_at (unwrap_or (lookup (is_at (nat_cmp s)) es) 0) k
rows_have [] h s k = sym (one_at-zero k)
rows_have (e ∷ es) h s k =
    let rest = has_rows (rows_of es) s k in
    rows-append (row_of e.0 e.1) (rows_of es) s k ∙ ap (λ t. t || rest) (row_has e.0 e.1 s k)
    ∙ elim (cases_Bool (s == e.0)) as (λ _. (((s == e.0) && is_one_at e.1 k) || rest) ≡ is_one_at (unwrap_or (cond (is_eq (nat_cmp s e.0)) (Some e.1) (lookup (is_at (nat_cmp s)) es)) 0) k) [
      | inl same ↦ rw (eq_test s e.0, same)
          (ap (λ t. is_one_at e.1 k || t) (ap (λ n. has_rows (rows_of es) n k) (eqb-true s e.0 same) ∙ absent e.0 k es (sorted_head nat_cmp e.0 (keys es) h)) ∙ or_false (is_one_at e.1 k))
      | inr apart ↦ rw (eq_test s e.0, apart) (rows_have es (sorted_tail nat_cmp e.0 (keys es) h) s k)
    ]
  where
    or_false : (a : Bool) → (a || false) ≡ a
    or_false true = refl
    or_false false = refl

-- ---- in order

above : (signal : ℕ) (es : Entries) → AllByRecursion (λ y. nat_cmp signal y ≡ Less) (keys es) → AllByRecursion (λ other. signal < other.signal.0) (rows_of es)
above signal [] h = tt
above signal (e ∷ es) h =
    elim (cases_Bool (e.1 == 0)) as (λ _. AllByRecursion (λ other. signal < other.signal.0) (cond (e.1 == 0) [] (record { signal = record { 0 = e.0 }; mask = e.1 } ∷ []) ++ rows_of es)) [
      | inl zero' ↦ rw zero' (above signal es h.1)
      | inr some ↦ rw some (less_from signal e.0 h.0, above signal es h.1)
    ]

pub rows_in_order : (es : Entries) → IsStrictlySortedBy nat_cmp (keys es) → IsInOrder (rows_of es)
rows_in_order [] h = tt
rows_in_order (e ∷ es) h =
    elim (cases_Bool (e.1 == 0)) as (λ _. IsInOrder (cond (e.1 == 0) [] (record { signal = record { 0 = e.0 }; mask = e.1 } ∷ []) ++ rows_of es)) [
      | inl zero' ↦ rw zero' (rows_in_order es (sorted_tail nat_cmp e.0 (keys es) h))
      | inr some ↦ rw some (positive e.1 (eqb-false e.1 0 some), above e.0 es (sorted_head nat_cmp e.0 (keys es) h), rows_in_order es (sorted_tail nat_cmp e.0 (keys es) h))
    ]
  where
    positive : (n : ℕ) → (n ≡ 0 → ⊥) → 1 ≤ n
    positive n h = omega arith
