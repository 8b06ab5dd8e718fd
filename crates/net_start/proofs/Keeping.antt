-- Bits that are kept, process by process.
use Rattle.std.proofs.Common.{add-one, drop-cons, ◌≡◌, ◌∙◌, ◌<◌, ◌≤◌, ◌+◌, ℕ, zero, suc, Bool, true, false, not, ◌&&◌, ◌||◌, List, [], ◌∷◌, ◌++◌, length, take, drop, get_or, Some, refl, sym, ap, arith}
use Rattle.std.specs.List.{list_any, slice_get}
use Rattle.std.proofs.lemmas.List.{take_all}
use Rattle.std.proofs.lemmas.Bool.{false≢true}
use Rattle.rtl_flat.specs.Flows.{flow_of}
use Rattle.rtl_flat.specs.Paths.{is_sure, may_write}
use Rattle.rtl_flat.specs.Process.{Assign, Comb, Edge', Doing, Task}
use Rattle.rtl_flat.specs.Flats.{Flat, widths}
use Rattle.check_found.specs.rtl_scan.declared.bits.Row.{Row}
use Rattle.check_found.specs.rtl_scan.Sets.{has_row, has_rows}
use Rattle.check_found.proofs.Gathering.{take_next}
use Rattle.net_start.specs.Kept.{kept_below, kept_by, kept_in}
use Rattle.net_start.specs.Stored.{is_kept, keeps}

-- ---- tests

pub or_false : (b : Bool) → (b || false) ≡ b
or_false true = refl
or_false false = refl

or_assoc : (a b c : Bool) → ((a || b) || c) ≡ (a || (b || c))
or_assoc true b c = refl
or_assoc false b c = refl

-- what is left of two, one after the other
pub spread : (a r o s : Bool) → ((a || (r && not s)) || (o && not s)) ≡ (a || ((r || o) && not s))
spread true r o s = refl
spread false true true true = refl
spread false true false true = refl
spread false true true false = refl
spread false true false false = refl
spread false false o s = refl

any_append : {A : Type 0} (test : A → Bool) (xs ys : List A) → list_any test (xs ++ ys) ≡ (list_any test xs || list_any test ys)
any_append test [] ys = refl
any_append test (x ∷ xs) ys =
    ap (λ t. test x || t) (any_append test xs ys) ∙ sym (or_assoc (test x) (list_any test xs) (list_any test ys))

-- ---- processes

module _ (d : Flat) where
  pub kept_next : (n : ℕ) (one : Task) → slice_get d.tasks n ≡ Some one → (s k : ℕ) → kept_below d (n + 1) s k ≡ (kept_below d n s k || kept_by d n s k)
  kept_next n one there s k =
      let test = λ (task : Task). keeps (widths d) task.does s k in
      ap (list_any test) (take_next d.tasks n one there) ∙ any_append test (take n d.tasks) (one ∷ [])
      ∙ ap (λ t. list_any test (take n d.tasks) || t) (or_false (test one) ∙ sym (ap (λ o. kept_in (widths d) o s k) there))

  pub kept_all : (n : ℕ) → length d.tasks ≤ n → (s k : ℕ) → kept_below d n s k ≡ is_kept d s k
  kept_all n past s k =
      ap (list_any (λ (task : Task). keeps (widths d) task.does s k)) (take_all n d.tasks past)

-- ---- rows

pub rows_from : (rows : List Row) (i : ℕ) → i < length rows → (s k : ℕ) → has_rows (drop i rows) s k ≡ (has_row (get_or rows i (record { signal = record { 0 = 0 }; mask = 0 })) s k || has_rows (drop (i + 1) rows) s k)
rows_from rows i below s k =
    ap (λ (l : List Row). has_rows l s k) (drop-cons rows i (record { signal = record { 0 = 0 }; mask = 0 }) below)
    ∙ ap (λ j. has_row (get_or rows i (record { signal = record { 0 = 0 }; mask = 0 })) s k || has_rows (drop j rows) s k) (sym (add-one i))

-- ---- one process

abbrev pub comb : Doing → Bool
comb (Assign target value) = false
comb (Comb list body) = true
comb (Edge' events body) = false

abbrev pub edged : Doing → Bool
edged (Assign target value) = false
edged (Comb list body) = false
edged (Edge' events body) = true

module _ (d : Flat) (p : ℕ) (one : Task) (there : slice_get d.tasks p ≡ Some one) (s k : ℕ) where
  kept_is : kept_by d p s k ≡ keeps (widths d) one.does s k
  kept_is = ap (λ o. kept_in (widths d) o s k) there

  pub kept_comb : comb one.does ≡ true → kept_by d p s k ≡ (may_write (flow_of (widths d) one.does) s k && not (is_sure (flow_of (widths d) one.does) s k))
  kept_comb is = kept_is ∙ by one.does is
    where
      by : (does : Doing) → comb does ≡ true → keeps (widths d) does s k ≡ (may_write (flow_of (widths d) does) s k && not (is_sure (flow_of (widths d) does) s k))
      by (Assign target value) h = absurd (false≢true h)
      by (Comb list body) h = refl
      by (Edge' events body) h = absurd (false≢true h)

  pub kept_edge : edged one.does ≡ true → kept_by d p s k ≡ may_write (flow_of (widths d) one.does) s k
  kept_edge is = kept_is ∙ by one.does is
    where
      by : (does : Doing) → edged does ≡ true → keeps (widths d) does s k ≡ may_write (flow_of (widths d) does) s k
      by (Assign target value) h = absurd (false≢true h)
      by (Comb list body) h = absurd (false≢true h)
      by (Edge' events body) h = refl

pub there_is : {A : Type 0} (xs : List A) (k : ℕ) → k < length xs → (x : A) × (slice_get xs k ≡ Some x)
there_is [] k below = absurd (omega (arith, below))
there_is (x ∷ xs) zero below = (x, refl)
there_is (x ∷ xs) (suc k) below = there_is xs k (omega (arith, below))
