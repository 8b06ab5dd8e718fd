-- The findings of a process whose written list leaves bits out.
use Rattle.std.proofs.Common.{◌≡◌, ◌∙◌, ℕ, ◌<◌, ◌≤◌, ◌==◌, Bool, true, false, not, cond, ◌&&◌, ◌||◌, List, [], ◌∷◌, ◌++◌, map, None, Some, refl, sym, ap, arith, inl, inr}
use Rattle.std.specs.BTreeMap.{BTreeMap}
use Rattle.std.specs.List.{AllByRecursion}
use Rattle.std.proofs.lemmas.Bool.{and_parts, both_ways, cases_Bool, eqb-true, eqb-false}
use Rattle.rtl_bits.specs.Bits.{is_one_at}
use Rattle.rtl_bits.specs.Digits.{one_at-zero}
use Rattle.rtl_flat.specs.Flows.{flow_of}
use Rattle.rtl_flat.specs.PathSets.{listed}
use Rattle.rtl_flat.specs.Paths.{BitSet, reads_outside}
use Rattle.rtl_flat.specs.Process.{Doing, Assign, Comb, Edge', Task}
use Rattle.rtl_rule.specs.declared.finding.Finding.{Finding}
use Rattle.rtl_rule.specs.Parts.{has_some, within}
use Rattle.rtl_flat.specs.Flats.{Flat, widths}
use Rattle.check_found.specs.rtl_scan.declared.bits.Row.{Row}
use Rattle.check_found.specs.rtl_scan.Sets.{IsInOrder, has, has_row, has_rows, mask_of}
use Rattle.check_found.proofs.rtl_scan_proofs.Masks.{row_without}
use Rattle.check_found.specs.Gathered.{Gets, signal_numbers, task_sites}
use Rattle.check_found.proofs.Gathering.{map_findings}
use Rattle.check_found.proofs.Inside.{outside_inside}
use Rattle.check_found.proofs.Signals.{AreRows, signals_those}
use Rattle.check_found.proofs.Those.{those_as}
use Rattle.std.proofs.lemmas.List.{append-nil}
use Rattle.check_sense.specs.Sense.{IsSenseMissing, misses, sense_missing_at}
use Rattle.check_sense.specs.Telling.{has_items, lacking_in, lacks, left_of}
use Rattle.check_sense.proofs.Findings.{none_of}

-- ---- the rows of what is left

abbrev left_row : BTreeMap ℕ ℕ → Row → Row
left_row masks row = record { signal = row.signal; mask = left_of masks row }

abbrev left_rows : BTreeMap ℕ ℕ → List Row → List Row
left_rows masks [] = []
left_rows masks (row ∷ rows) = cond (lacks masks row) (left_row masks row ∷ []) [] ++ left_rows masks rows

not_false : (b : Bool) → not b ≡ false → b ≡ true
not_false true h = refl
not_false false h = absurd (cc)

not_true : (b : Bool) → not b ≡ true → b ≡ false
not_true true h = absurd (cc)
not_true false h = refl

head_has : (masks : BTreeMap ℕ ℕ) (row : Row) (rest : List Row) (s k : ℕ) → has_rows (cond (lacks masks row) (left_row masks row ∷ []) [] ++ rest) s k ≡ (has_row (left_row masks row) s k || has_rows rest s k)
head_has masks row rest s k =
    elim (cases_Bool (lacks masks row)) as (λ _. has_rows (cond (lacks masks row) (left_row masks row ∷ []) [] ++ rest) s k ≡ (has_row (left_row masks row) s k || has_rows rest s k)) [
      | inl yes' ↦ rw (yes') refl
      | inr no' ↦
          let none : left_of masks row ≡ 0 = eqb-true (left_of masks row) 0 (not_false (left_of masks row == 0) no') in
          rw (no') (ap (λ b. b || has_rows rest s k) (sym (nothing (s == row.signal.0) (is_one_at (left_of masks row) k) (ap (λ m. is_one_at m k) none ∙ one_at-zero k))))
    ]
  where
    nothing : (a b : Bool) → b ≡ false → (a && b) ≡ false
    nothing true b h = h
    nothing false b h = refl

both_lose : (a b n : Bool) → ((a && n) || (b && n)) ≡ ((a || b) && n)
both_lose true true true = refl
both_lose true true false = refl
both_lose true false true = refl
both_lose true false false = refl
both_lose false b n = refl

left_have : (masks : BTreeMap ℕ ℕ) (rows : List Row) (s k : ℕ) → has_rows (left_rows masks rows) s k ≡ (has_rows rows s k && not (has masks s k))
left_have masks [] s k = refl
left_have masks (row ∷ rows) s k =
    head_has masks row (left_rows masks rows) s k
    ∙ ap (λ b. b || has_rows (left_rows masks rows) s k) (row_without row (mask_of masks) (mask_of masks row.signal.0) refl s k)
    ∙ ap (λ b. (has_row row s k && not (has masks s k)) || b) (left_have masks rows s k)
    ∙ both_lose (has_row row s k) (has_rows rows s k) (not (has masks s k))

left_above : (masks : BTreeMap ℕ ℕ) (n : ℕ) (rows : List Row) → AllByRecursion (λ (row : Row). n < row.signal.0) rows → AllByRecursion (λ (row : Row). n < row.signal.0) (left_rows masks rows)
left_above masks n [] all = tt
left_above masks n (row ∷ rows) all =
    elim (cases_Bool (lacks masks row)) as (λ _. AllByRecursion (λ (row : Row). n < row.signal.0) (cond (lacks masks row) (left_row masks row ∷ []) [] ++ left_rows masks rows)) [
      | inl yes' ↦ rw (yes') (all.0, left_above masks n rows all.1)
      | inr no' ↦ rw (no') (left_above masks n rows all.1)
    ]

left_order : (masks : BTreeMap ℕ ℕ) (rows : List Row) → IsInOrder rows → IsInOrder (left_rows masks rows)
left_order masks [] order = tt
left_order masks (row ∷ rows) order =
    elim (cases_Bool (lacks masks row)) as (λ _. IsInOrder (cond (lacks masks row) (left_row masks row ∷ []) [] ++ left_rows masks rows)) [
      | inl yes' ↦
          let some : 1 ≤ left_of masks row = positive (left_of masks row) (eqb-false (left_of masks row) 0 (not_true (left_of masks row == 0) yes')) in
          rw (yes') (some, left_above masks row.signal.0 rows order.1, left_order masks rows order.2)
      | inr no' ↦ rw (no') (left_order masks rows order.2)
    ]
  where
    positive : (n : ℕ) → (n ≡ 0 → ⊥) → 1 ≤ n
    positive n h = omega arith

abbrev signals_of : List Row → List ℕ
signals_of rows = map (λ (row : Row). row.signal.0) rows

left_told : (p : ℕ) (task : Task) (masks : BTreeMap ℕ ℕ) (rows : List Row) → lacking_in task masks rows ≡ map (λ s. sense_missing_at (within (p, task) s)) (signals_of (left_rows masks rows))
left_told p task masks [] = refl
left_told p task masks (row ∷ rows) =
    elim (cases_Bool (lacks masks row)) as (λ _. (cond (lacks masks row) (sense_missing_at (within (0, task) row.signal.0) ∷ []) [] ++ lacking_in task masks rows) ≡ map (λ s. sense_missing_at (within (p, task) s)) (signals_of (cond (lacks masks row) (left_row masks row ∷ []) [] ++ left_rows masks rows))) [
      | inl yes' ↦ rw (yes') (ap (λ l. sense_missing_at (within (0, task) row.signal.0) ∷ l) (left_told p task masks rows))
      | inr no' ↦ rw (no') (left_told p task masks rows)
    ]

-- ---- a process

abbrev missing_bits : Flat → Doing → BitSet
missing_bits d does s k =
    reads_outside (flow_of (widths d) does) s k && not (listed (widths d) does s k)

misses_is : (d : Flat) (does : Doing) (s : ℕ) → misses d does s ≡ (has_items does && has_some (widths d) (missing_bits d does) s)
misses_is d (Assign target value) s = refl
misses_is d (Comb None body) s = refl
misses_is d (Comb (Some items) body) s = refl
misses_is d (Edge' events body) s = refl

module _ (d : Flat) (p : ℕ) (task : Task) where
  abbrev numbers : List ℕ
  numbers = signal_numbers d task.does

  pub gets_missing : (read : List Row) (masks : BTreeMap ℕ ℕ) → has_items task.does ≡ true → IsInOrder read → ((s k : ℕ) → has_rows read s k ≡ reads_outside (flow_of (widths d) task.does) s k) → ((s k : ℕ) → has masks s k ≡ listed (widths d) task.does s k) → (old new : List Finding) → new ≡ old ++ lacking_in task masks read → Gets (IsSenseMissing d) sense_missing_at (task_sites (signal_numbers d) p task) old new
  gets_missing read masks written order reads lists old new added =
      record {
        more = lacking_in task masks read;
        added = added;
        are = map_findings (IsSenseMissing d) sense_missing_at (within (p, task)) numbers (lacking_in task masks read)
            (record {
              broken = signals_of (left_rows masks read);
              those = those_as (λ s. has_some (widths d) (missing_bits d task.does) s ≡ true) (λ s. misses d task.does s ≡ true)
                  (λ s. (λ h. is s ∙ h, λ h. sym (is s) ∙ h)) numbers (signals_of (left_rows masks read))
                  (signals_those d (missing_bits d task.does) (left_rows masks read) are_rows);
              shown = left_told p task masks read;
            });
      }
    where
      is : (s : ℕ) → misses d task.does s ≡ has_some (widths d) (missing_bits d task.does) s
      is s = misses_is d task.does s ∙ ap (λ b. b && has_some (widths d) (missing_bits d task.does) s) written

      are_rows : AreRows (widths d) (missing_bits d task.does) (left_rows masks read)
      are_rows = record {
        order = left_order masks read order;
        same = λ s k. left_have masks read s k ∙ ap (λ b. b && not (has masks s k)) (reads s k)
            ∙ ap (λ b. reads_outside (flow_of (widths d) task.does) s k && not b) (lists s k);
        inside = λ s k h. outside_inside (widths d) task.does s k (and_parts (reads_outside (flow_of (widths d) task.does) s k) _ h).0;
      }

  -- a process without a written list
  pub gets_no_missing : has_items task.does ≡ false → (found : List Finding) → Gets (IsSenseMissing d) sense_missing_at (task_sites (signal_numbers d) p task) found found
  gets_no_missing unwritten found =
      record {
        more = [];
        added = sym (append-nil found);
        are = map_findings (IsSenseMissing d) sense_missing_at (within (p, task)) numbers []
            (record {
              broken = [];
              those = none_of (λ s. misses d task.does s ≡ true) numbers (λ s h. both_ways (misses d task.does s) (misses_is d task.does s ∙ ap (λ b. b && has_some (widths d) (missing_bits d task.does) s) unwritten) h);
              shown = refl;
            });
      }
