-- A list of masks of which one is another, rows without a bit, and rows that are added one by one.
use Rattle.std.proofs.Common.{ℕ, ◌≡◌, ◌∙◌, ◌+◌, ◌<◌, ◌&&◌, ◌||◌, Bool, true, false, cond, List, drop, length, get_or, set, refl, sym, ap, inl, inr}
use Rattle.std.specs.Prelude.{◌==◌}
use Rattle.std.proofs.lemmas.Bool.{cases_Bool, eqb-true, eqb-false}
use Rattle.std.proofs.lemmas.List.{get_or_default, get_or-set_same, get_or-set_other}
use Rattle.rtl_bits.specs.Bits.{is_one_at}
use Rattle.rtl_bits.specs.Digits.{one_at-zero}
use Rattle.rtl_flat.specs.Paths.{BitSet}
use Rattle.rtl_scan.specs.declared.bits.Row.{Row}
use Rattle.rtl_scan.specs.Sets.{has_row, has_rows, put}
use Rattle.rtl_scan.proofs.Labels.{left_at}

not_both : (b : Bool) → (b && false) ≡ false
not_both true = refl
not_both false = refl

pub no_row : (row : Row) → row.mask ≡ 0 → (s k : ℕ) → has_row row s k ≡ false
no_row row empty s k =
    ap (λ mask. (s == row.signal.0) && is_one_at mask k) empty ∙ ap (λ b. (s == row.signal.0) && b) (one_at-zero k)
    ∙ not_both (s == row.signal.0)

-- the masks of a list, of which one is another
pub filled : (masks : List ℕ) (f : ℕ → ℕ) (place mask : ℕ) → place < length masks → ((s : ℕ) → get_or masks s 0 ≡ f s) → (s : ℕ) → get_or (set masks place mask) s 0 ≡ put f place mask s
filled masks f place mask inside same s =
    elim (cases_Bool (s == place)) as (λ _. get_or (set masks place mask) s 0 ≡ cond (s == place) mask (f s)) [
      | inl e ↦ rw (e) (ap (λ i. get_or (set masks place mask) i 0) (eqb-true s place e) ∙ get_or-set_same masks place mask 0 inside)
      | inr e ↦ rw (e) (get_or-set_other masks place s mask 0 (eqb-false s place e) ∙ same s)
    ]

-- one row of some more, of which only the bits in a set count
pub shared_more :
    (rows : List Row) (i : ℕ) (d : Row) → i < length rows → (before after within : BitSet) (row : Row) →
    ((s k : ℕ) → has_row row s k ≡ (has_row (get_or rows i d) s k && within s k)) → ((s k : ℕ) → after s k ≡ (before s k || has_row row s k)) →
    (s k : ℕ) → (after s k || (has_rows (drop (i + 1) rows) s k && within s k)) ≡ (before s k || (has_rows (drop i rows) s k && within s k))
shared_more rows i d inside before after within row shares adds s k =
    ap (λ b. b || (has_rows (drop (i + 1) rows) s k && within s k)) (adds s k ∙ ap (λ b. before s k || b) (shares s k))
    ∙ by (before s k) (has_row (get_or rows i d) s k) (has_rows (drop (i + 1) rows) s k) (within s k)
    ∙ ap (λ (left : List Row). before s k || (has_rows left s k && within s k)) (sym (left_at rows i (get_or rows i d) inside (get_or_default rows i d (get_or rows i d) inside)))
  where
    by : (b x r o : Bool) → ((b || (x && o)) || (r && o)) ≡ (b || ((x || r) && o))
    by true x r o = refl
    by false true r true = refl
    by false true true false = refl
    by false true false false = refl
    by false false r o = refl
