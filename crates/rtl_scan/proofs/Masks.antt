-- What writing a mask does to a set of bits.
use Rattle.std.proofs.Common.{ℕ, ◌≡◌, ◌<◌, ◌≤◌, ◌-◌, ◌*◌, ◌/◌, ◌%◌, ◌^◌, ◌∙◌, arith, Bool, true, false, not, cond, ◌&&◌, ◌||◌, List, [], ◌∷◌, ◌++◌, refl, sym, ap, inl, inr}
use Rattle.std.specs.Prelude.{bit_and, bit_or, bit_xor, ◌==◌, nat_lt, nat_le}
use Rattle.std.specs.Int.{bit_at}
use Rattle.std.specs.Map.{lookup}
use Rattle.std.specs.Option.{unwrap_or}
use Rattle.std.specs.Ordering.{nat_cmp}
use Rattle.std.specs.BTreeMap.{BTreeMap, is_at}
use Rattle.std.proofs.lemmas.Nat.Bits.{ones_shr, ones_shl, bit_at_ones, bit_at_ones_above, bit_at_mask_below, bit_at_mask_inside}
use Rattle.std.proofs.lemmas.Bool.{cases_Bool, cases_lt, eqb-true, lt-ltb, le-ltb, lt-leb, le-leb}
use Rattle.rtl_bits.specs.Bits.{is_one_at}
use Rattle.rtl_bits.specs.Digits.{one_at_and, one_at_or, one_at_xor, one_at-zero, differ}
use Rattle.rtl_scan.specs.declared.bits.Row.{Row}
use Rattle.rtl_scan.proofs.Bools.{or_assoc}
use Rattle.rtl_scan.specs.Sets.{put, has, has_row, has_rows}

and_differ : (a b : Bool) → (a && differ a b) ≡ (a && not b)
and_differ true b = refl
and_differ false b = refl

-- `a & (a ^ b)`
pub without_is : (a b k : ℕ) → is_one_at (bit_and a (bit_xor a b)) k ≡ (is_one_at a k && not (is_one_at b k))
without_is a b k =
    one_at_and a (bit_xor a b) k ∙ ap (λ x. is_one_at a k && x) (one_at_xor a b k) ∙ and_differ (is_one_at a k) (is_one_at b k)

pub or_nothing : (a : Bool) → a ≡ (a || false)
or_nothing true = refl
or_nothing false = refl

pub and_something : (a : Bool) → a ≡ (a && true)
and_something true = refl
and_something false = refl

-- a row's bits put into the mask of its signal
pub put_or : (f g : ℕ → ℕ) (row : Row) (m : ℕ) → m ≡ f row.signal.0 → ((s : ℕ) → g s ≡ put f row.signal.0 (bit_or m row.mask) s) → (s k : ℕ) → is_one_at (g s) k ≡ (is_one_at (f s) k || has_row row s k)
put_or f g row m was is s k =
    ap (λ n. is_one_at n k) (is s) ∙ elim (cases_Bool (s == row.signal.0)) as (λ _. is_one_at (cond (s == row.signal.0) (bit_or m row.mask) (f s)) k ≡ (is_one_at (f s) k || has_row row s k)) [
      | inl e ↦ rw (e) (one_at_or m row.mask k ∙ ap (λ n. is_one_at n k || is_one_at row.mask k) (was ∙ ap f (sym (eqb-true s row.signal.0 e))))
      | inr e ↦ rw (e) (or_nothing (is_one_at (f s) k))
    ]

-- the mask of a row's signal has all its bits already
pub covered : (f : ℕ → ℕ) (row : Row) (m : ℕ) → m ≡ f row.signal.0 → bit_or m row.mask ≡ m → (s k : ℕ) → is_one_at (f s) k ≡ (is_one_at (f s) k || has_row row s k)
covered f row m was same s k =
    put_or f f row m was
    (λ s. elim (cases_Bool (s == row.signal.0)) as (λ _. f s ≡ cond (s == row.signal.0) (bit_or m row.mask) (f s)) [
      | inl e ↦ rw (e) (ap f (eqb-true s row.signal.0 e) ∙ sym was ∙ sym same)
      | inr e ↦ rw (e) (refl)
    ])
    s k

-- a row's bits taken out of the mask of its signal
pub put_without : (f g : ℕ → ℕ) (row : Row) (m : ℕ) → m ≡ f row.signal.0 → ((s : ℕ) → g s ≡ put f row.signal.0 (bit_and m (bit_xor m row.mask)) s) → (s k : ℕ) → is_one_at (g s) k ≡ (is_one_at (f s) k && not (has_row row s k))
put_without f g row m was is s k =
    ap (λ n. is_one_at n k) (is s) ∙ elim (cases_Bool (s == row.signal.0)) as (λ _. is_one_at (cond (s == row.signal.0) (bit_and m (bit_xor m row.mask)) (f s)) k ≡ (is_one_at (f s) k && not (has_row row s k))) [
      | inl e ↦ rw (e) (without_is m row.mask k ∙ ap (λ n. is_one_at n k && not (is_one_at row.mask k)) (was ∙ ap f (sym (eqb-true s row.signal.0 e))))
      | inr e ↦ rw (e) (and_something (is_one_at (f s) k))
    ]

-- what a row has beside a set, or in it
pub row_without : (row : Row) (f : ℕ → ℕ) (m : ℕ) → m ≡ f row.signal.0 → (s k : ℕ) → ((s == row.signal.0) && is_one_at (bit_and row.mask (bit_xor row.mask m)) k) ≡ (has_row row s k && not (is_one_at (f s) k))
row_without row f m was s k =
    elim (cases_Bool (s == row.signal.0)) as (λ _. ((s == row.signal.0) && is_one_at (bit_and row.mask (bit_xor row.mask m)) k) ≡ (has_row row s k && not (is_one_at (f s) k))) [
      | inl e ↦ rw (e) (without_is row.mask m k ∙ ap (λ n. is_one_at row.mask k && not (is_one_at n k)) (was ∙ ap f (sym (eqb-true s row.signal.0 e))))
      | inr e ↦ rw (e) refl
    ]

pub row_inside : (row : Row) (f : ℕ → ℕ) (m : ℕ) → m ≡ f row.signal.0 → (s k : ℕ) → ((s == row.signal.0) && is_one_at (bit_and row.mask m) k) ≡ (has_row row s k && is_one_at (f s) k)
row_inside row f m was s k =
    elim (cases_Bool (s == row.signal.0)) as (λ _. ((s == row.signal.0) && is_one_at (bit_and row.mask m) k) ≡ (has_row row s k && is_one_at (f s) k)) [
      | inl e ↦ rw (e) (one_at_and row.mask m k ∙ ap (λ n. is_one_at row.mask k && is_one_at n k) (was ∙ ap f (sym (eqb-true s row.signal.0 e))))
      | inr e ↦ rw (e) refl
    ]

-- one row more
pub has_rows_push : (rows : List Row) (row : Row) (s k : ℕ) → has_rows (rows ++ row ∷ []) s k ≡ (has_rows rows s k || has_row row s k)
has_rows_push [] row s k = sym (or_nothing (has_row row s k))
has_rows_push (x ∷ rows) row s k =
    ap (λ b. has_row x s k || b) (has_rows_push rows row s k) ∙ sym (or_assoc (has_row x s k) (has_rows rows s k) (has_row row s k))

-- a map without entries has no bit
pub has_none : (masks : BTreeMap ℕ ℕ) → masks.entries ≡ [] → (s k : ℕ) → has masks s k ≡ false
has_none masks e s k =
    ap (λ es. is_one_at (unwrap_or (lookup (is_at (nat_cmp s)) es) 0) k) e ∙ one_at-zero k

-- ---- masks of some bits from a place on

one_test_of : (n i : ℕ) → is_one_at n i ≡ (n / 2 ^ i % 2 == 1)
unfolding is_one_at
one_test_of n i = refl

pub from_one : (n i : ℕ) → bit_at n i ≡ 1 → is_one_at n i ≡ true
from_one n i e = one_test_of n i ∙ ap (λ d. d == 1) e

pub from_zero : (n i : ℕ) → bit_at n i ≡ 0 → is_one_at n i ≡ false
from_zero n i e = one_test_of n i ∙ ap (λ d. d == 1) e

-- `MAX >> (128 - high)`
ones_below : (high k : ℕ) → high ≤ 128 → is_one_at ((2 ^ 128 - 1) / 2 ^ (128 - high)) k ≡ nat_lt k high
ones_below high k fits =
    ap (λ n. is_one_at n k) (ones_shr 128 (128 - high) (omega arith) ∙ ap (λ w. 2 ^ w - 1) (omega arith))
    ∙ elim (cases_lt k high) as (λ _. is_one_at (2 ^ high - 1) k ≡ nat_lt k high) [
      | inl below ↦ from_one (2 ^ high - 1) k (bit_at_ones high k below) ∙ sym (lt-ltb k high below)
      | inr above ↦ from_zero (2 ^ high - 1) k (bit_at_ones_above high k above) ∙ sym (le-ltb k high above)
    ]

-- `MAX << low`
ones_from : (low k : ℕ) → low ≤ 128 → k < 128 → is_one_at ((2 ^ 128 - 1) * 2 ^ low % 2 ^ 128) k ≡ nat_le low k
ones_from low k fits inside =
    ap (λ n. is_one_at n k) (ones_shl 128 low fits)
    ∙ elim (cases_lt k low) as (λ _. is_one_at (2 ^ 128 - 2 ^ low) k ≡ nat_le low k) [
      | inl below ↦ from_zero (2 ^ 128 - 2 ^ low) k (bit_at_mask_below low 128 k below) ∙ sym (lt-leb low k below)
      | inr above ↦ from_one (2 ^ 128 - 2 ^ low) k (bit_at_mask_inside low 128 k above inside) ∙ sym (le-leb low k above)
    ]

-- the bits from one place on and below another
pub ones_between : (low high k : ℕ) → low ≤ 128 → high ≤ 128 → is_one_at (bit_and ((2 ^ 128 - 1) / 2 ^ (128 - high)) ((2 ^ 128 - 1) * 2 ^ low % 2 ^ 128)) k ≡ (nat_le low k && nat_lt k high)
ones_between low high k low_fits high_fits =
    one_at_and ((2 ^ 128 - 1) / 2 ^ (128 - high)) ((2 ^ 128 - 1) * 2 ^ low % 2 ^ 128) k
    ∙ elim (cases_lt k high) as (λ _. (is_one_at ((2 ^ 128 - 1) / 2 ^ (128 - high)) k && is_one_at ((2 ^ 128 - 1) * 2 ^ low % 2 ^ 128) k) ≡ (nat_le low k && nat_lt k high)) [
      | inl below ↦ rw (ones_below high k high_fits, ones_from low k low_fits (omega arith), lt-ltb k high below) (and_something (nat_le low k))
      | inr above ↦ rw (ones_below high k high_fits, le-ltb k high above) (sym (and_nothing (nat_le low k)))
    ]
  where
    and_nothing : (a : Bool) → (a && false) ≡ false
    and_nothing true = refl
    and_nothing false = refl
