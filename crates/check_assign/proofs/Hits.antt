-- Rows of bits as tests of signals.
use Rattle.std.proofs.Common.{ℕ, ◌≡◌, ◌∙◌, ◌<◌, Bool, true, false, not, ◌&&◌, List, [], ◌∷◌, refl, sym, ap, subst, inl, inr}
use Rattle.std.specs.Prelude.{◌==◌, bit_and, bit_xor}
use Rattle.std.proofs.lemmas.Bool.{and_from, and_parts, and_right, eq-eqb, eqb-true, false≢true, not_from_false, not_from_true, or_cases, or_left, or_right}
use Rattle.rtl_bits.specs.Bits.{is_one_at}
use Rattle.rtl_bits.specs.Digits.{one_at_and}
use Rattle.rtl_flat.specs.Flows.{may_select}
use Rattle.rtl_flat.specs.Paths.{BitSet}
use Rattle.rtl_flat.specs.Process.{Selection}
use Rattle.rtl_flat.specs.Process as part
use Rattle.rtl_rule.specs.Parts.{has_some}
use Rattle.check_loops.specs.rtl_scan.declared.bits.Row.{Row}
use Rattle.check_loops.specs.rtl_scan.Sets.{has_row, has_rows}
use Rattle.check_loops.proofs.rtl_scan_proofs.Masks.{without_is}
use Rattle.check_loops.proofs.rtl_scan_proofs.Users.{some_bit_is}
use Rattle.check_loops.proofs.check_found_proofs.Inside.{IsInside}
use Rattle.rtl_rule.proofs.Below.{some_at, some_found}
use Rattle.check_assign.specs.Marks.{any_row, leaves, shares}
use Rattle.check_assign.proofs.Below.{below_same, same_truth, select_at, whole_at}

-- ---- a select

-- whether a row of the bits that a select may mean has a bit of a signal
pub part_hit : (ws : ℕ → ℕ) (signal : ℕ) (selection : Selection) (row : Row) → ((s k : ℕ) → has_row row s k ≡ may_select ws signal selection s k) → (s : ℕ) → has_some ws (may_select ws signal selection) s ≡ ((s == signal) && not (row.mask == 0))
part_hit ws signal selection row are s =
    same_truth (has_some ws (may_select ws signal selection) s) ((s == signal) && not (row.mask == 0)) to back
  where
    to : has_some ws (may_select ws signal selection) s ≡ true → ((s == signal) && not (row.mask == 0)) ≡ true
    to h =
        let found = some_found (ws s) (may_select ws signal selection s) h in
        let (same, below) = select_at ws signal selection s found.number found.is in
        let (here, one) = and_parts (s == row.signal.0) (is_one_at row.mask found.number) (are s found.number ∙ found.is) in
        and_from (s == signal) (not (row.mask == 0)) (eq-eqb s signal same) ((some_bit_is row.mask).1 (found.number, one))

    back : ((s == signal) && not (row.mask == 0)) ≡ true → has_some ws (may_select ws signal selection) s ≡ true
    back h =
        let (same, some) = and_parts (s == signal) (not (row.mask == 0)) h in
        let (k, one) = (some_bit_is row.mask).0 some in
        let bit : may_select ws signal selection row.signal.0 k ≡ true = sym (are row.signal.0 k) ∙ and_from (row.signal.0 == row.signal.0) (is_one_at row.mask k) (eq-eqb row.signal.0 row.signal.0 refl) one in
        let (its, below) = select_at ws signal selection row.signal.0 k bit in
        let there : row.signal.0 ≡ s = its ∙ sym (eqb-true s signal same) in
        some_at (ws s) (may_select ws signal selection s) k (subst (λ i. k < ws i) (sym (eqb-true s signal same)) below) (subst (λ i. may_select ws signal selection i k ≡ true) there bit)

pub part_none : (ws : ℕ → ℕ) (signal : ℕ) (selection : Selection) (row : Row) → ((s k : ℕ) → has_row row s k ≡ may_select ws signal selection s k) → row.mask ≡ 0 → (s : ℕ) → has_some ws (may_select ws signal selection) s ≡ false
part_none ws signal selection row are none s =
    part_hit ws signal selection row are s ∙ and_right (s == signal) (not (row.mask == 0)) (not_from_true (row.mask == 0) (eq-eqb row.mask 0 none))

pub part_some : (ws : ℕ → ℕ) (signal : ℕ) (selection : Selection) (row : Row) → ((s k : ℕ) → has_row row s k ≡ may_select ws signal selection s k) → (row.mask == 0) ≡ false → (s : ℕ) → has_some ws (may_select ws signal selection) s ≡ (s == signal)
part_some ws signal selection row are some s =
    part_hit ws signal selection row are s ∙ and_true (s == signal) (not (row.mask == 0)) (not_from_false (row.mask == 0) some)
  where
    and_true : (a b : Bool) → b ≡ true → (a && b) ≡ a
    and_true true b h = h
    and_true false b h = refl

-- ---- rows

-- some bit of a row that is in a set, by a mask of such bits
module _ (mask : Row → ℕ) (inside : BitSet) (is : (row : Row) (k : ℕ) → is_one_at (mask row) k ≡ (is_one_at row.mask k && inside row.signal.0 k)) where
  abbrev hit : Row → Bool
  hit row = not (mask row == 0)

  abbrev Hits : List Row → ℕ → Type 0
  Hits rows s = (k : ℕ) × (has_rows rows s k ≡ true) × (inside s k ≡ true)

  any_hit : (rows : List Row) (s : ℕ) → any_row hit rows s ≡ true → Hits rows s
  any_hit [] s h = absurd (false≢true h)
  any_hit (row ∷ rows) s h =
      elim (or_cases ((s == row.signal.0) && hit row) (any_row hit rows s) h) [
        | inl here ↦
            let (same, some) = and_parts (s == row.signal.0) (hit row) here in
            let (k, one) = (some_bit_is (mask row)).0 some in
            let (bit, within) = and_parts (is_one_at row.mask k) (inside row.signal.0 k) (sym (is row k) ∙ one) in
            (k, or_left (has_row row s k) (has_rows rows s k) (and_from (s == row.signal.0) (is_one_at row.mask k) same bit), subst (λ i. inside i k ≡ true) (sym (eqb-true s row.signal.0 same)) within)
        | inr later ↦
            let (k, bit, within) = any_hit rows s later in
            (k, or_right (has_row row s k) (has_rows rows s k) bit, within)
      ]

  hit_any : (rows : List Row) (s k : ℕ) → has_rows rows s k ≡ true → inside s k ≡ true → any_row hit rows s ≡ true
  hit_any [] s k bit within = absurd (false≢true bit)
  hit_any (row ∷ rows) s k bit within =
      elim (or_cases (has_row row s k) (has_rows rows s k) bit) [
        | inl here ↦
            let (same, one) = and_parts (s == row.signal.0) (is_one_at row.mask k) here in
            let both = and_from (is_one_at row.mask k) (inside row.signal.0 k) one (subst (λ i. inside i k ≡ true) (eqb-true s row.signal.0 same) within) in
            or_left ((s == row.signal.0) && hit row) (any_row hit rows s) (and_from (s == row.signal.0) (hit row) same ((some_bit_is (mask row)).1 (k, is row k ∙ both)))
        | inr later ↦
            or_right ((s == row.signal.0) && hit row) (any_row hit rows s) (hit_any rows s k later within)
      ]

  any_hit_is : (ws : ℕ → ℕ) (bits : BitSet) (rows : List Row) → IsInside ws bits → ((s k : ℕ) → has_rows rows s k ≡ bits s k) → (s : ℕ) → any_row hit rows s ≡ has_some ws (λ i k. bits i k && inside i k) s
  any_hit_is ws bits rows below same s =
      same_truth (any_row hit rows s) (has_some ws (λ i k. bits i k && inside i k) s)
      (λ h.
      let (k, bit, within) = any_hit rows s h in
      let there : bits s k ≡ true = sym (same s k) ∙ bit in
      some_at (ws s) (λ j. bits s j && inside s j) k (below s k there) (and_from (bits s k) (inside s k) there within))
      (λ h.
      let found = some_found (ws s) (λ j. bits s j && inside s j) h in
      let (bit, within) = and_parts (bits s found.number) (inside s found.number) found.is in
      hit_any rows s found.number (same s found.number ∙ bit) within)

pub shares_some : (masks : ℕ → ℕ) (ws : ℕ → ℕ) (bits other : BitSet) (rows : List Row) → IsInside ws bits → ((s k : ℕ) → has_rows rows s k ≡ bits s k) → ((s k : ℕ) → is_one_at (masks s) k ≡ other s k) → (s : ℕ) → any_row (shares masks) rows s ≡ has_some ws (λ i k. bits i k && other i k) s
shares_some masks ws bits other rows below same others s =
    any_hit_is (λ row. bit_and row.mask (masks row.signal.0)) (λ i k. is_one_at (masks i) k) (λ row k. one_at_and row.mask (masks row.signal.0) k) ws bits rows below same s
    ∙ below_same (ws s) (λ k. bits s k && is_one_at (masks s) k) (λ k. bits s k && other s k) (λ k. ap (λ b. bits s k && b) (others s k))

pub leaves_some : (masks : ℕ → ℕ) (ws : ℕ → ℕ) (bits other : BitSet) (rows : List Row) → IsInside ws bits → ((s k : ℕ) → has_rows rows s k ≡ bits s k) → ((s k : ℕ) → is_one_at (masks s) k ≡ other s k) → (s : ℕ) → any_row (leaves masks) rows s ≡ has_some ws (λ i k. bits i k && not (other i k)) s
leaves_some masks ws bits other rows below same others s =
    any_hit_is (λ row. bit_and row.mask (bit_xor row.mask (masks row.signal.0))) (λ i k. not (is_one_at (masks i) k)) (λ row k. without_is row.mask (masks row.signal.0) k) ws bits rows below same s
    ∙ below_same (ws s) (λ k. bits s k && not (is_one_at (masks s) k)) (λ k. bits s k && not (other s k)) (λ k. ap (λ b. bits s k && not b) (others s k))

-- a bit of a whole signal that isn't in a set
pub whole_leaves : (masks : ℕ → ℕ) (ws : ℕ → ℕ) (signal : ℕ) (row : Row) → ((s k : ℕ) → has_row row s k ≡ may_select ws signal part.Whole s k) → leaves masks row ≡ has_some ws (λ s k. not (is_one_at (masks s) k)) signal
whole_leaves masks ws signal row are = same_truth (leaves masks row) (has_some ws (λ s k. not (is_one_at (masks s) k)) signal) to back
  where
    to : leaves masks row ≡ true → has_some ws (λ s k. not (is_one_at (masks s) k)) signal ≡ true
    to h =
        let (k, one) = (some_bit_is (bit_and row.mask (bit_xor row.mask (masks row.signal.0)))).0 h in
        let (bit, out) = and_parts (is_one_at row.mask k) (not (is_one_at (masks row.signal.0) k)) (sym (without_is row.mask (masks row.signal.0) k) ∙ one) in
        let there : may_select ws signal part.Whole row.signal.0 k ≡ true = sym (are row.signal.0 k) ∙ and_from (row.signal.0 == row.signal.0) (is_one_at row.mask k) (eq-eqb row.signal.0 row.signal.0 refl) bit in
        let (its, below) = select_at ws signal part.Whole row.signal.0 k there in
        some_at (ws signal) (λ j. not (is_one_at (masks signal) j)) k below (subst (λ i. not (is_one_at (masks i) k) ≡ true) its out)

    back : has_some ws (λ s k. not (is_one_at (masks s) k)) signal ≡ true → leaves masks row ≡ true
    back h =
        let found = some_found (ws signal) (λ j. not (is_one_at (masks signal) j)) h in
        let k = found.number in
        let (same, bit) = and_parts (signal == row.signal.0) (is_one_at row.mask k) (are signal k ∙ whole_at ws signal k found.below) in
        let out = subst (λ i. not (is_one_at (masks i) k) ≡ true) (eqb-true signal row.signal.0 same) found.is in
        (some_bit_is (bit_and row.mask (bit_xor row.mask (masks row.signal.0)))).1 (k, without_is row.mask (masks row.signal.0) k ∙ and_from (is_one_at row.mask k) (not (is_one_at (masks row.signal.0) k)) bit out)
