-- The signals of rows are those of which a set of bits has some.
use Rattle.std.proofs.Common.{◌≡◌, ◌∙◌, ℕ, zero, suc, ◌+◌, ◌<◌, ◌≤◌, Bool, true, false, ◌==◌, ◌||◌, List, [], ◌∷◌, length, map, None, refl, sym, ap, subst, inl, inr, arith}
use Rattle.std.specs.List.{AllByRecursion, enumerate_from, filter}
use Rattle.std.proofs.lemmas.Bool.{and_from, and_parts, both_ways, cases_Bool, cases_eq, cond-true, cond-false, eq-eqb, false≢true, false_from_ne_true, ne_eqb, not_from_false, or_cases, or_left, or_right}
use Rattle.rtl_bits.specs.Bits.{is_one_at}
use Rattle.rtl_flat.specs.declared.signal.Signal.{Signal}
use Rattle.rtl_flat.specs.Paths.{BitSet}
use Rattle.rtl_flat.specs.Process.{Task}
use Rattle.rtl_flat.specs.Signs.{width_in}
use Rattle.rtl_rule.specs.declared.finding.Finding.{Finding}
use Rattle.rtl_rule.specs.Parts.{At, first_below, first_of, has_some, number, some_below, within}
use Rattle.rtl_flat.specs.Flats.{Flat, widths}
use Rattle.rtl_rule.specs.Sites.{AreFindings, AreThose}
use Rattle.rtl_rule.proofs.Below.{none_at, some_at, some_found}
use Rattle.rtl_scan.specs.declared.bits.Row.{Row}
use Rattle.rtl_scan.specs.Sets.{IsInOrder, has_row, has_rows}
use Rattle.rtl_scan.specs.Usage.{has_row_of}
use Rattle.rtl_scan.proofs.Users.{some_bit_is}
use Rattle.check_found.specs.Gathered.{Gets, first_signal, row_sites, signal_numbers, task_sites}
use Rattle.check_found.proofs.Gathering.{narrow_findings, narrow_gets}
use Rattle.check_found.proofs.Inside.{IsInside}
use Rattle.check_found.proofs.Those.{map_those, those_by_test}

-- ---- numbers below a limit

-- the least number of which a test holds
pub first_at : (n : ℕ) (test : ℕ → Bool) (k : ℕ) → k < n → test k ≡ true → ((j : ℕ) → j < k → test j ≡ false) → first_below n test ≡ number k
first_at zero test k below is none = absurd (omega (arith, below))
first_at (suc n) test k below is none =
    elim (cases_eq k n) [
      | inl here ↦
          let none' : (j : ℕ) → j < n → test j ≡ false = λ j under. none j (subst (λ m. j < m) (sym here) under) in
          let is' : test n ≡ true = subst (λ m. test m ≡ true) here is in
          cond-false (some_below n test) _ _ (none_at n test none') ∙ cond-true (test n) (number n) None is' ∙ ap number (sym here)
      | inr other ↦
          let below' : k < n = omega (arith, below, other) in
          cond-true (some_below n test) _ _ (some_at n test k below' is) ∙ first_at n test k below' is none
    ]

pub first_none : (n : ℕ) (test : ℕ → Bool) → ((k : ℕ) → k < n → test k ≡ false) → first_below n test ≡ None
first_none zero test none = refl
first_none (suc n) test none =
    cond-false (some_below n test) _ _ (none_at n test (λ k below. none k (omega (arith, below))))
    ∙ cond-false (test n) (number n) None (none n (omega arith))

-- ---- the signals of rows

-- a row with a bit
pub row_bit : (row : Row) → 1 ≤ row.mask → (k : ℕ) × (is_one_at row.mask k ≡ true)
row_bit row some = (some_bit_is row.mask).0 (not_from_false (row.mask == 0) (ne_eqb row.mask 0 (λ none. absurd (omega (arith, some, none)))))

-- a signal of some row has a bit
pub row_has_bit : (rows : List Row) → IsInOrder rows → (s : ℕ) → has_row_of rows s ≡ true → (k : ℕ) × (has_rows rows s k ≡ true)
row_has_bit [] order s h = absurd (false≢true h)
row_has_bit (row ∷ rows) order s h =
    elim (or_cases (s == row.signal.0) (has_row_of rows s) h) [
      | inl same ↦
          let (k, one) = row_bit row order.0 in
          (k, or_left (has_row row s k) (has_rows rows s k) (and_from (s == row.signal.0) (is_one_at row.mask k) same one))
      | inr later ↦
          let (k, one) = row_has_bit rows order.2 s later in
          (k, or_right (has_row row s k) (has_rows rows s k) one)
    ]

pub bit_has_row : (rows : List Row) (s k : ℕ) → has_rows rows s k ≡ true → has_row_of rows s ≡ true
bit_has_row [] s k h = absurd (false≢true h)
bit_has_row (row ∷ rows) s k h =
    elim (or_cases (has_row row s k) (has_rows rows s k) h) [
      | inl here ↦ or_left (s == row.signal.0) (has_row_of rows s) (and_parts (s == row.signal.0) (is_one_at row.mask k) here).0
      | inr later ↦ or_right (s == row.signal.0) (has_row_of rows s) (bit_has_row rows s k later)
    ]

-- the rows of a set of bits that lie inside their signals
pub record AreRows (ws : ℕ → ℕ) (bits : BitSet) (rows : List Row) : Type 0 where
  pub order : IsInOrder rows
  pub same : (s k : ℕ) → has_rows rows s k ≡ bits s k
  pub inside : IsInside ws bits

-- a set has some bit of a signal where a row has
pub rows_have_some : (ws : ℕ → ℕ) (bits : BitSet) (rows : List Row) → AreRows ws bits rows → (s : ℕ) → has_row_of rows s ≡ has_some ws bits s
rows_have_some ws bits rows are s =
    elim (cases_Bool (has_row_of rows s)) [
      | inl some ↦
          let (k, one) = row_has_bit rows are.order s some in
          let bit = sym (are.same s k) ∙ one in
          some ∙ sym (some_at (ws s) (bits s) k (are.inside s k bit) bit)
      | inr none ↦
          none ∙ sym (false_from_ne_true (has_some ws bits s) (λ h.
          let found = some_found (ws s) (bits s) h in
          both_ways (has_row_of rows s) none (bit_has_row rows s found.number (are.same s found.number ∙ found.is))))
    ]

-- numbers from one on
abbrev numbers : {X : Type 0} → ℕ → List X → List ℕ
numbers n xs = map (λ (one : ℕ × _). one.0) (enumerate_from n xs)

abbrev signals_of : List Row → List ℕ
signals_of rows = map (λ (row : Row). row.signal.0) rows

none_before : (rows : List Row) (n s : ℕ) → AllByRecursion (λ (row : Row). n < row.signal.0) rows → s ≤ n → has_row_of rows s ≡ false
none_before [] n s all under = refl
none_before (row ∷ rows) n s all under =
    ap (λ b. b || has_row_of rows s) (ne_eqb s row.signal.0 (λ same. absurd (omega (arith, all.0, under, same))))
    ∙ none_before rows n s all.1 under

from_next : (rows : List Row) (n : ℕ) → AllByRecursion (λ (row : Row). n < row.signal.0) rows → AllByRecursion (λ (row : Row). n + 1 ≤ row.signal.0) rows
from_next [] n all = tt
from_next (row ∷ rows) n all = (omega (arith, all.0), from_next rows n all.1)

past_end : (rows : List Row) (n : ℕ) → AllByRecursion (λ (row : Row). n ≤ row.signal.0) rows → ((s : ℕ) → has_row_of rows s ≡ true → s < n) → signals_of rows ≡ []
past_end [] n from below = refl
past_end (row ∷ rows) n from below =
    let under = below row.signal.0 (or_left (row.signal.0 == row.signal.0) (has_row_of rows row.signal.0) (eq-eqb row.signal.0 row.signal.0 refl)) in
    absurd (omega (arith, from.0, under))

-- what a filter by rows in order keeps of the numbers are their signals
kept_by_rows : {X : Type 0} (xs : List X) (n : ℕ) (rows : List Row) → IsInOrder rows → AllByRecursion (λ (row : Row). n ≤ row.signal.0) rows → ((s : ℕ) → has_row_of rows s ≡ true → s < n + length xs) → (test : ℕ → Bool) → ((s : ℕ) → n ≤ s → test s ≡ has_row_of rows s) → filter test (numbers n xs) ≡ signals_of rows
kept_by_rows [] n rows order from below test is =
    sym (past_end rows n from (λ s h. let under = below s h in omega (arith, under)))
kept_by_rows (x ∷ xs) n [] order from below test is =
    cond-false (test n) _ _ (is n (omega arith))
    ∙ kept_by_rows xs (n + 1) [] order tt (λ s h. absurd (false≢true h)) test (λ s under. is s (omega (arith, under)))
kept_by_rows (x ∷ xs) n (row ∷ rows) order from below test is =
    elim (cases_eq n row.signal.0) [
      | inl here ↦
          let passes : test n ≡ true = is n (omega arith) ∙ or_left (n == row.signal.0) (has_row_of rows n) (eq-eqb n row.signal.0 here) in
          let after : AllByRecursion (λ (other : Row). n < other.signal.0) rows = subst (λ m. AllByRecursion (λ (other : Row). m < other.signal.0) rows) (sym here) order.1 in
          let rest = kept_by_rows xs (n + 1) rows order.2 (from_next rows n after)
          (λ s h. let under = below s (or_right (s == row.signal.0) (has_row_of rows s) h) in omega (arith, under)) test
          (λ s past. is s (omega (arith, past)) ∙ ap (λ b. b || has_row_of rows s) (ne_eqb s row.signal.0 (λ same. absurd (omega (arith, past, same, here))))) in
          cond-true (test n) _ _ passes ∙ ap (λ m. m ∷ filter test (numbers (n + 1) xs)) here ∙ ap (λ l. row.signal.0 ∷ l) rest
      | inr other ↦
          let later : n < row.signal.0 = omega (arith, from.0, other) in
          let fails : test n ≡ false = is n (omega arith) ∙ none_before (row ∷ rows) n n (later, over rows row.signal.0 order.1 later) (omega arith) in
          let rest = kept_by_rows xs (n + 1) (row ∷ rows) order (omega (arith, later), from_next rows n (over rows row.signal.0 order.1 later))
          (λ s h. let under = below s h in omega (arith, under)) test (λ s past. is s (omega (arith, past))) in
          cond-false (test n) _ _ fails ∙ rest
    ]
  where
    over : (rows : List Row) (m : ℕ) → AllByRecursion (λ (other : Row). m < other.signal.0) rows → n < m → AllByRecursion (λ (other : Row). n < other.signal.0) rows
    over [] m all under = tt
    over (row ∷ rows) m all under = (omega (arith, all.0, under), over rows m all.1 under)

signal_there : (signals : List Signal) (s k : ℕ) → k < width_in signals s → s < length signals
signal_there [] s k below = absurd (omega (arith, below))
signal_there (x ∷ signals) zero k below = omega arith
signal_there (x ∷ signals) (suc s) k below =
    let there = signal_there signals s k below in omega (arith, there)

from_zero : (rows : List Row) → AllByRecursion (λ (row : Row). 0 ≤ row.signal.0) rows
from_zero [] = tt
from_zero (row ∷ rows) = (omega arith, from_zero rows)

earlier : (row : Row) (others : List Row) → IsInOrder (row ∷ others) → (s : ℕ) → s < row.signal.0 → has_row_of (row ∷ others) s ≡ false
earlier row others order s before =
    ap (λ b. b || has_row_of others s) (ne_eqb s row.signal.0 (λ same. absurd (omega (arith, before, same))))
    ∙ none_before others row.signal.0 s order.1 (omega (arith, before))

module _ (d : Flat) (bits : BitSet) (rows : List Row) (are : AreRows (widths d) bits rows) where
  -- a row's signal is one of the design
  pub row_below : (s : ℕ) → has_row_of rows s ≡ true → s < length d.signals
  row_below s h =
      let (k, one) = row_has_bit rows are.order s h in
      signal_there d.signals s k (are.inside s k (sym (are.same s k) ∙ one))

  -- the signals that a set has some bit of
  pub kept_signals : filter (has_some (widths d) bits) (map (λ (one : ℕ × Signal). one.0) (enumerate_from 0 d.signals)) ≡ map (λ (row : Row). row.signal.0) rows
  kept_signals =
      kept_by_rows d.signals 0 rows are.order (from_zero rows) (λ s h. let below = row_below s h in omega (arith, below)) (has_some (widths d) bits)
      (λ s any. sym (rows_have_some (widths d) bits rows are s))

  pub signals_those : AreThose (λ s. has_some (widths d) bits s ≡ true) (map (λ (one : ℕ × Signal). one.0) (enumerate_from 0 d.signals)) (map (λ (row : Row). row.signal.0) rows)
  signals_those =
      subst (AreThose (λ s. has_some (widths d) bits s ≡ true) (map (λ (one : ℕ × Signal). one.0) (enumerate_from 0 d.signals))) kept_signals
      (those_by_test (λ s. has_some (widths d) bits s ≡ true) (has_some (widths d) bits) (λ s. (λ h. h, λ h. h)) (map (λ (one : ℕ × Signal). one.0) (enumerate_from 0 d.signals)))

  -- the same as sites of one process
  pub rows_those : (n : ℕ) (task : Task) → AreThose (λ site. has_some (widths d) bits site.it ≡ true) (task_sites (signal_numbers d) n task) (row_sites n task rows)
  rows_those n task =
      subst (AreThose (λ site. has_some (widths d) bits site.it ≡ true) (task_sites (signal_numbers d) n task)) (twice rows)
      (map_those (λ site. has_some (widths d) bits site.it ≡ true) (within (n, task)) (map (λ (one : ℕ × Signal). one.0) (enumerate_from 0 d.signals)) (map (λ (row : Row). row.signal.0) rows) signals_those)
    where
      twice : (rows : List Row) → map (within (n, task)) (map (λ (row : Row). row.signal.0) rows) ≡ row_sites n task rows
      twice [] = refl
      twice (row ∷ rows) = ap (λ l. within (n, task) row.signal.0 ∷ l) (twice rows)

  -- the least of them
  pub first_row : first_of d bits ≡ first_signal rows
  first_row = by_rows rows are refl
    where
      by_rows : (all : List Row) → AreRows (widths d) bits all → all ≡ rows → first_of d bits ≡ first_signal all
      by_rows [] is e =
          first_none (length d.signals) (has_some (widths d) bits) (λ s below. sym (rows_have_some (widths d) bits [] is s))
      by_rows (row ∷ others) is e =
          let here = or_left (row.signal.0 == row.signal.0) (has_row_of others row.signal.0) (eq-eqb row.signal.0 row.signal.0 refl) in
          first_at (length d.signals) (has_some (widths d) bits) row.signal.0
          (row_below row.signal.0 (subst (λ zs. has_row_of zs row.signal.0 ≡ true) e here))
          (sym (rows_have_some (widths d) bits (row ∷ others) is row.signal.0) ∙ here)
          (λ s before. sym (rows_have_some (widths d) bits (row ∷ others) is s) ∙ earlier row others is.order s before)

-- a rule over each process with each signal that breaks at signals of rows alone: it is enough to go over the rows
module _ (P : At ℕ → Type 0) (finding_at : At ℕ → Finding) (d : Flat) (bits : BitSet) (rows : List Row) (are : AreRows (widths d) bits rows) (n : ℕ) (task : Task) (from : (site : At ℕ) → P site → has_some (widths d) bits site.it ≡ true) where
  pub findings_by_rows : (found : List Finding) → AreFindings P finding_at (row_sites n task rows) found → AreFindings P finding_at (task_sites (signal_numbers d) n task) found
  findings_by_rows found h =
      narrow_findings P finding_at (λ site. has_some (widths d) bits site.it ≡ true) from (task_sites (signal_numbers d) n task) (row_sites n task rows) found (rows_those d bits rows are n task) h

  pub gets_by_rows : (old new : List Finding) → Gets P finding_at (row_sites n task rows) old new → Gets P finding_at (task_sites (signal_numbers d) n task) old new
  gets_by_rows old new h =
      narrow_gets P finding_at (λ site. has_some (widths d) bits site.it ≡ true) from (task_sites (signal_numbers d) n task) (row_sites n task rows) old new (rows_those d bits rows are n task) h
