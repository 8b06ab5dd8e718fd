-- Bits of rows, and what processes write and read by them.
use Rattle.std.proofs.Common.{◌≡◌, ◌∙◌, ℕ, zero, suc, ◌+◌, ◌<◌, ◌≤◌, ◌==◌, ◌&&◌, not, Bool, true, false, List, [], ◌∷◌, ◌++◌, length, get_or, take, Some, refl, sym, ap, subst, inl, inr, arith}
use Rattle.std.specs.Prelude.{◌⊎◌, ◌↔◌}
use Rattle.std.specs.List.{slice_get}
use Rattle.std.specs.BTreeMap.{BTreeMap}
use Rattle.std.proofs.lemmas.Bool.{and_from, and_parts, both_ways, eq-eqb, eqb-true, false≢true, or_cases, or_left, or_right}
use Rattle.std.proofs.lemmas.List.{take_more, take_all}
use Rattle.rtl_bits.specs.Bits.{is_one_at}
use Rattle.rtl_flat.specs.Flats.{Flat, widths}
use Rattle.rtl_flat.specs.Flows.{body_flow, flow_of, item_reads}
use Rattle.rtl_flat.specs.Paths.{BitSet, is_sure_now, may_read, may_write, reads_outside}
use Rattle.rtl_flat.specs.PathSets.{IsTemporary}
use Rattle.rtl_flat.specs.Process.{Actions, Doing}
use Rattle.rtl_rule.specs.Parts.{items_of}
use Rattle.net_model.specs.Solution.{IsLasting}
use Rattle.check_chains.specs.rtl_scan.declared.bits.Row.{Row}
use Rattle.check_chains.specs.rtl_scan.Sets.{has, has_row, has_rows, mask_of}
use Rattle.check_chains.proofs.rtl_scan_proofs.Masks.{has_rows_push}
use Rattle.check_chains.proofs.rtl_scan_proofs.Users.{some_bit_is}
use Rattle.check_gates.specs.Forms.{AreApart, AreClear, AreWithin, HaveOther, LeaveOut, ReadsWell, WritesWell}
use Rattle.check_gates.proofs.Waiting.{got, marked_there}

-- an element that is there, whatever else there would be
pub get_any : {A : Type 0} (xs : List A) (n : ℕ) (d e : A) → n < length xs → get_or xs n d ≡ get_or xs n e
get_any [] n d e below = absurd (omega (arith, below))
get_any (x ∷ xs) zero d e below = refl
get_any (x ∷ xs) (suc n) d e below = get_any xs n d e (omega (arith, below))

abbrev pub blank : Row
blank = record { signal = record { 0 = 0 }; mask = 0 }

abbrev pub row_at : List Row → ℕ → Row
row_at rows n = get_or rows n blank

pub row_is : (rows : List Row) (n : ℕ) → n < length rows → row_at rows n ≡ get_or rows n (row_at rows n)
row_is rows n below = get_any rows n blank (row_at rows n) below

-- ---- all bits of rows

abbrev pub AllBits : List Row → (ℕ → ℕ → Type 0) → Type 0
AllBits rows P = (s k : ℕ) → has_rows rows s k ≡ true → P s k

abbrev pub AllOf : Row → (ℕ → ℕ → Type 0) → Type 0
AllOf row P = (s k : ℕ) → has_row row s k ≡ true → P s k

pub all_none : (P : ℕ → ℕ → Type 0) → AllBits [] P
all_none P s k h = absurd (false≢true h)

pub all_next : (P : ℕ → ℕ → Type 0) (rows : List Row) (n : ℕ) (row : Row) → n < length rows → row ≡ get_or rows n row → AllBits (take n rows) P → AllOf row P → AllBits (take (n + 1) rows) P
all_next P rows n row below is all one s k h =
    let more : take (n + 1) rows ≡ take n rows ++ row ∷ [] = take_more rows n row below ∙ ap (λ (r : Row). take n rows ++ r ∷ []) (sym is) in
    elim (or_cases (has_rows (take n rows) s k) (has_row row s k) (sym (has_rows_push (take n rows) row s k) ∙ ap (λ (rs : List Row). has_rows rs s k) (sym more) ∙ h)) [
      | inl before ↦ all s k before
      | inr now ↦ one s k now
    ]

pub all_done : (P : ℕ → ℕ → Type 0) (rows : List Row) (n : ℕ) → length rows ≤ n → AllBits (take n rows) P → AllBits rows P
all_done P rows n past all =
    subst (λ (rs : List Row). AllBits rs P) (take_all n rows past) all

-- a row's bits are the rows'
pub row_in : (rows : List Row) (n : ℕ) (row : Row) (s k : ℕ) → n < length rows → row ≡ get_or rows n row → has_row row s k ≡ true → has_rows rows s k ≡ true
row_in [] n row s k below is h = absurd (omega (arith, below))
row_in (one ∷ rows) zero row s k below is h =
    or_left (has_row one s k) (has_rows rows s k) (ap (λ (r : Row). has_row r s k) (sym is) ∙ h)
row_in (one ∷ rows) (suc n) row s k below is h =
    or_right (has_row one s k) (has_rows rows s k) (row_in rows n row s k (omega (arith, below)) is h)

-- ---- masks

pub mask_none : (row : Row) → row.mask ≡ 0 → (s k : ℕ) → has_row row s k ≡ true → ⊥
mask_none row none s k h =
    let (same, one) = and_parts (s == row.signal.0) (is_one_at row.mask k) h in
    both_ways (not (row.mask == 0)) (ap not (eq-eqb row.mask 0 none)) ((some_bit_is row.mask).1 (k, one))

pub mask_some : (row : Row) → (row.mask ≡ 0 → ⊥) → (k : ℕ) × (has_row row row.signal.0 k ≡ true)
mask_some row some =
    let (k, one) = (some_bit_is row.mask).0 (by_zero (row.mask == 0) refl) in
    (k, and_from (row.signal.0 == row.signal.0) (is_one_at row.mask k) (eq-eqb row.signal.0 row.signal.0 refl) one)
  where
    by_zero : (b : Bool) → (row.mask == 0) ≡ b → not (row.mask == 0) ≡ true
    by_zero true e = absurd (some (eqb-true row.mask 0 e))
    by_zero false e = ap not e

-- ---- a set with all bits of a row, or with none

pub lacks_none : (row lack : Row) (bits : BitSet) → ((s k : ℕ) → has_row lack s k ≡ (has_row row s k && not (bits s k))) → lack.mask ≡ 0 → AllOf row (λ s k. bits s k ≡ true)
lacks_none row lack bits is none s k h = by (bits s k) refl
  where
    by : (b : Bool) → bits s k ≡ b → bits s k ≡ true
    by true e = e
    by false e = absurd (mask_none lack none s k (is s k ∙ and_from (has_row row s k) (not (bits s k)) h (ap not e)))

pub lacks_some : (rows : List Row) (n : ℕ) (row lack : Row) (bits : BitSet) → n < length rows → row ≡ get_or rows n row → ((s k : ℕ) → has_row lack s k ≡ (has_row row s k && not (bits s k))) → (lack.mask ≡ 0 → ⊥) → AreWithin rows bits → ⊥
lacks_some rows n row lack bits below there is some within =
    let (k, one) = mask_some lack some in
    let (its, out) = and_parts (has_row row lack.signal.0 k) (not (bits lack.signal.0 k)) (sym (is lack.signal.0 k) ∙ one) in
    both_ways (not (bits lack.signal.0 k)) (ap not (within lack.signal.0 k (row_in rows n row lack.signal.0 k below there its))) out

pub shares_none : (row both : Row) (bits : BitSet) → ((s k : ℕ) → has_row both s k ≡ (has_row row s k && bits s k)) → both.mask ≡ 0 → AllOf row (λ s k. bits s k ≡ true → ⊥)
shares_none row both bits is none s k h bit =
    mask_none both none s k (is s k ∙ and_from (has_row row s k) (bits s k) h bit)

pub shares_some : (rows : List Row) (n : ℕ) (row both : Row) (bits : BitSet) → n < length rows → row ≡ get_or rows n row → ((s k : ℕ) → has_row both s k ≡ (has_row row s k && bits s k)) → (both.mask ≡ 0 → ⊥) → AreApart rows bits → ⊥
shares_some rows n row both bits below there is some apart =
    let (k, one) = mask_some both some in
    let (its, bit) = and_parts (has_row row both.signal.0 k) (bits both.signal.0 k) (sym (is both.signal.0 k) ∙ one) in
    apart both.signal.0 k (row_in rows n row both.signal.0 k below there its) bit

-- ---- a signal that rows leave out

abbrev pub IsOther : ℕ → ℕ → ℕ → Type 0
IsOther signal s k = s ≡ signal → ⊥

pub leaves_other : (row : Row) (signal : ℕ) → (row.signal.0 ≡ signal → row.mask ≡ 0) → AllOf row (IsOther signal)
leaves_other row signal none s k h same =
    let (at, one) = and_parts (s == row.signal.0) (is_one_at row.mask k) h in
    mask_none row (none (sym (eqb-true s row.signal.0 at) ∙ same)) s k h

pub leaves_some : (rows : List Row) (n : ℕ) (row : Row) (signal : ℕ) → n < length rows → row ≡ get_or rows n row → row.signal.0 ≡ signal → (row.mask ≡ 0 → ⊥) → LeaveOut rows signal → ⊥
leaves_some rows n row signal below there same some out =
    let (k, one) = mask_some row some in
    out k (row_in rows n row signal k below there (subst (λ s. has_row row s k ≡ true) same one))

pub left_out : (rows : List Row) (signal : ℕ) → AllBits rows (IsOther signal) → LeaveOut rows signal
left_out rows signal all k h = all signal k h refl

-- ---- a signal that isn't marked

abbrev pub IsMarked : List Bool → ℕ → ℕ → Type 0
IsMarked marks s k = slice_get marks s ≡ Some true

pub marked_all : (row : Row) (marks : List Bool) → (row.mask ≡ 0 → ⊥) ⊎ (row.mask ≡ 0) → ((row.mask ≡ 0 → ⊥) → get_or marks row.signal.0 false ≡ true) → AllOf row (IsMarked marks)
marked_all row marks (inl some) marked s k h =
    let (at, one) = and_parts (s == row.signal.0) (is_one_at row.mask k) h in
    subst (λ i. slice_get marks i ≡ Some true) (sym (eqb-true s row.signal.0 at)) (marked_there marks row.signal.0 (marked some))
marked_all row marks (inr none) marked s k h = absurd (mask_none row none s k h)

pub other_there : (rows : List Row) (n : ℕ) (row : Row) (marks : List Bool) → n < length rows → row ≡ get_or rows n row → (row.mask ≡ 0 → ⊥) → get_or marks row.signal.0 false ≡ false → HaveOther rows marks
other_there rows n row marks below there some none =
    let (k, one) = mask_some row some in
    (row.signal.0, k, row_in rows n row row.signal.0 k below there one, λ marked. both_ways (get_or marks row.signal.0 false) none (got marks row.signal.0 marked))

pub no_other : (rows : List Row) (marks : List Bool) → AllBits rows (IsMarked marks) → HaveOther rows marks → ⊥
no_other rows marks all (s, k, has, other) = other (all s k has)

-- ---- what a process writes and reads, by rows

pub mask_lacks : (masks : BTreeMap ℕ ℕ) (signal : ℕ) → mask_of masks signal ≡ 0 → (k : ℕ) → has masks signal k ≡ true → ⊥
mask_lacks masks signal none k one =
    both_ways (not (mask_of masks signal == 0)) (ap not (eq-eqb (mask_of masks signal) 0 none)) ((some_bit_is (mask_of masks signal)).1 (k, one))

pub lacks_mask : (masks : BTreeMap ℕ ℕ) (signal : ℕ) → ((k : ℕ) → has masks signal k ≡ true → ⊥) → mask_of masks signal ≡ 0
lacks_mask masks signal none = by (mask_of masks signal == 0) refl
  where
    by : (b : Bool) → (mask_of masks signal == 0) ≡ b → mask_of masks signal ≡ 0
    by true e = eqb-true (mask_of masks signal) 0 e
    by false e = let (k, one) = (some_bit_is (mask_of masks signal)).0 (ap not e) in absurd (none k one)

module _ (d : Flat) (does : Doing) (rows : List Row) (may : (s k : ℕ) → has_rows rows s k ≡ may_write (flow_of (widths d) does) s k) (branch : Actions) where
  -- a bit of a variable that is no temporary
  pub holds_from : (marks : List Bool) → ((s : ℕ) → slice_get marks s ≡ Some true ↔ IsTemporary d.signals d.tasks s) → HaveOther rows marks → (i k : ℕ) × (may_write (flow_of (widths d) does) i k ≡ true) × IsLasting d i
  holds_from marks are (s, k, has, other) =
      (s, k, sym (may s k) ∙ has, λ temporary. other ((are s).1 temporary))

  pub holds_to : (marks : List Bool) → ((s : ℕ) → slice_get marks s ≡ Some true ↔ IsTemporary d.signals d.tasks s) → WritesWell d does branch → HaveOther rows marks
  holds_to marks are well =
      let (s, k, w, lasting) = well.holds in (s, k, may s k ∙ w, λ marked. lasting ((are s).0 marked))

  module _ (bits : BitSet) (sure : (s k : ℕ) → bits s k ≡ is_sure_now (body_flow (widths d) branch) s k) where
    pub within_to : AreWithin rows bits → (i k : ℕ) → may_write (flow_of (widths d) does) i k ≡ true → is_sure_now (body_flow (widths d) branch) i k ≡ true
    within_to within i k w = sym (sure i k) ∙ within i k (may i k ∙ w)

    pub to_within : WritesWell d does branch → AreWithin rows bits
    to_within well s k h = sure s k ∙ well.writes s k (sym (may s k) ∙ h)

pub reads_are :
    (d : Flat) (does : Doing) (branch : Actions) (signal : ℕ) (outside listed : List Row) (written read : BitSet) →
    ((s k : ℕ) → written s k ≡ may_write (flow_of (widths d) does) s k) → ((s k : ℕ) → has_rows outside s k ≡ reads_outside (flow_of (widths d) does) s k) →
    ((s k : ℕ) → has_rows listed s k ≡ item_reads (widths d) (items_of does) s k) → ((s k : ℕ) → read s k ≡ may_read (body_flow (widths d) branch) s k) →
    AreClear outside listed written read signal ↔ ReadsWell d does branch signal
reads_are d does branch signal outside listed written read w o l r = (
  λ clear. record {
    apart = λ i k reads may. clear.apart i k (o i k ∙ reads) (w i k ∙ may);
    list_apart = λ i k reads may. clear.list_apart i k (l i k ∙ reads) (w i k ∙ may);
    once = λ k reads. clear.once k (r signal k ∙ reads);
    list_once = λ k reads. clear.list_once k (l signal k ∙ reads);
  },
  λ well. record {
    apart = λ s k has bit. well.apart s k (sym (o s k) ∙ has) (sym (w s k) ∙ bit);
    list_apart = λ s k has bit. well.list_apart s k (sym (l s k) ∙ has) (sym (w s k) ∙ bit);
    list_once = λ k has. well.list_once k (sym (l signal k) ∙ has);
    once = λ k bit. well.once k (sym (r signal k) ∙ bit);
  },
)
