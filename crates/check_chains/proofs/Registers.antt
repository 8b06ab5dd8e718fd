-- The registers of a process, from the rows of what it may write.
use Rattle.std.proofs.Common.{◌≡◌, ◌∙◌, ◌==◌, ◌&&◌, ◌||◌, not, ℕ, zero, suc, Bool, true, false, List, [], ◌∷◌, Some, refl, sym, ap}
use Rattle.std.specs.Prelude.{◌↔◌}
use Rattle.std.specs.List.{slice_get}
use Rattle.std.specs.Ordering.{nat_cmp}
use Rattle.std.specs.BTreeSet.{BTreeSet, contains}
use Rattle.std.proofs.lemmas.Bool.{and_from, and_parts, eqb-true, false≢true}
use Rattle.rtl_flat.specs.PathSets.{IsTemporary}
use Rattle.rtl_flat.specs.Process.{Doing}
use Rattle.rtl_rule.specs.Parts.{written}
use Rattle.rtl_flat.specs.Flats.{Flat, widths}
use Rattle.check_parts.specs.rtl_scan.declared.bits.Row.{Row}
use Rattle.check_parts.specs.rtl_scan.Sets.{IsInOrder, has_rows}
use Rattle.check_parts.specs.rtl_scan.Usage.{has_row_of}
use Rattle.check_found.proofs.Inside.{written_inside}
use Rattle.check_found.proofs.Signals.{AreRows, row_below, rows_have_some}
use Rattle.check_chains.specs.Branches.{AreRegisters, has_kept, is_marked}
use Rattle.check_chains.specs.Chains.{IsRegisterOf}

-- ---- marks

marked : (marks : List Bool) (s : ℕ) → slice_get marks s ≡ Some true ↔ is_marked marks s ≡ true
marked [] s = (λ h. absurd (cc), λ h. absurd (false≢true h))
marked (m ∷ marks) zero = (λ h. cc, λ h. ap Some h)
marked (m ∷ marks) (suc s) = marked marks s

true_not : (b : Bool) → not b ≡ true → b ≡ true → ⊥
true_not true h e = false≢true h
true_not false h e = false≢true e

not_true : (b : Bool) → (b ≡ true → ⊥) → not b ≡ true
not_true true h = absurd (h refl)
not_true false h = refl

-- ---- rows

by_bools : (m m' b h : Bool) → (b ≡ true → m' ≡ m) → ((not m' && b) || (not m && h)) ≡ (not m && (b || h))
by_bools true true true h same = refl
by_bools true false true h same = absurd (false≢true (same refl))
by_bools false true true h same = absurd (false≢true (sym (same refl)))
by_bools false false true h same = refl
by_bools true true false h same = refl
by_bools true false false h same = refl
by_bools false true false h same = refl
by_bools false false false h same = refl

kept_is : (marks : List Bool) (rows : List Row) (s : ℕ) → has_kept marks rows s ≡ (not (is_marked marks s) && has_row_of rows s)
kept_is marks [] s = none (is_marked marks s)
  where
    none : (b : Bool) → false ≡ (not b && false)
    none true = refl
    none false = refl
kept_is marks (row ∷ rows) s =
    ap (λ b. (not (is_marked marks row.signal.0) && (s == row.signal.0)) || b) (kept_is marks rows s)
    ∙ by_bools (is_marked marks s) (is_marked marks row.signal.0) (s == row.signal.0) (has_row_of rows s)
    (λ h. ap (is_marked marks) (sym (eqb-true s row.signal.0 h)))

module _ (d : Flat) (does : Doing) (rows : List Row) (same : (s k : ℕ) → has_rows rows s k ≡ written d does s k) (order : IsInOrder rows) (marks : List Bool) (temporaries : (s : ℕ) → slice_get marks s ≡ Some true ↔ IsTemporary d.signals d.tasks s) where
  rows_are : AreRows (widths d) (written d does) rows
  rows_are =
      record { order = order; same = same; inside = written_inside (widths d) does }

  register_from : (s : ℕ) → has_kept marks rows s ≡ true → IsRegisterOf d does s
  register_from s h =
      let (free, row) = and_parts (not (is_marked marks s)) (has_row_of rows s) (sym (kept_is marks rows s) ∙ h) in
      record {
        inside = row_below d (written d does) rows rows_are s row;
        writes = sym (rows_have_some (widths d) (written d does) rows rows_are s) ∙ row;
        kept = λ t. true_not (is_marked marks s) free ((marked marks s).0 ((temporaries s).1 t));
      }

  register_to : (s : ℕ) → IsRegisterOf d does s → has_kept marks rows s ≡ true
  register_to s h =
      let free = not_true (is_marked marks s) (λ m. h.kept ((temporaries s).0 ((marked marks s).1 m))) in
      let row = rows_have_some (widths d) (written d does) rows rows_are s ∙ h.writes in
      kept_is marks rows s ∙ and_from (not (is_marked marks s)) (has_row_of rows s) free row

  pub are_registers : (found : BTreeSet ℕ) → ((s : ℕ) → contains nat_cmp found s ≡ has_kept marks rows s) → AreRegisters d does found
  are_registers found is s =
      (λ h. register_from s (sym (is s) ∙ h), λ h. is s ∙ register_to s h)
