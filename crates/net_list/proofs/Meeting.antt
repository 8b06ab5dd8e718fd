-- Rows of bits that meet a set.
use Rattle.std.proofs.Common.{◌≡◌, ◌∙◌, ◌&&◌, ℕ, Bool, true, List, [], ◌∷◌, Some, refl, sym, subst, inl, inr}
use Rattle.std.specs.Prelude.{◌↔◌, ◌==◌}
use Rattle.std.specs.List.{list_any, slice_get}
use Rattle.std.specs.Option.{IsSomeAnd}
use Rattle.std.proofs.lemmas.Bool.{and_from, and_parts, eq-eqb, false≢true, or_cases, or_left, or_right}
use Rattle.rtl_bits.specs.Bits.{is_one_at}
use Rattle.rtl_flat.specs.Process.{Task}
use Rattle.rtl_rule.specs.declared.rule.Rule.TheVariants.{SeveralDrivers}
use Rattle.rtl_rule.specs.Parts.{has_some, written}
use Rattle.rtl_flat.specs.Flats.{Flat, widths}
use Rattle.check_assign.specs.rtl_scan.declared.bits.Row.{Row}
use Rattle.check_assign.specs.rtl_scan.Sets.{has_rows}
use Rattle.check_assign.proofs.check_found_proofs.Inside.{written_inside}
use Rattle.check_assign.specs.Assigned.{lower_writes}
use Rattle.check_assign.specs.Marks.{any_row, shares}
use Rattle.check_assign.proofs.Below.{signal_there}
use Rattle.check_assign.proofs.Hits.{shares_some}
use Rattle.net_list.specs.Faults.{HasFault, IsFault}

-- some row passes a test where some row of one signal does
module _ (test : Row → Bool) where
  any_of : (rows : List Row) → list_any test rows ≡ true → (s : ℕ) × (any_row test rows s ≡ true)
  any_of [] h = absurd (false≢true h)
  any_of (row ∷ rows) h =
      elim (or_cases (test row) (list_any test rows) h) [
        | inl here ↦ (row.signal.0, or_left _ (any_row test rows row.signal.0) (and_from _ _ (eq-eqb row.signal.0 row.signal.0 refl) here))
        | inr later ↦
            let (s, is) = any_of rows later in (s, or_right ((s == row.signal.0) && test row) (any_row test rows s) is)
      ]

  of_any : (rows : List Row) (s : ℕ) → any_row test rows s ≡ true → list_any test rows ≡ true
  of_any [] s h = h
  of_any (row ∷ rows) s h =
      elim (or_cases ((s == row.signal.0) && test row) (any_row test rows s) h) [
        | inl here ↦ or_left (test row) (list_any test rows) (and_parts (s == row.signal.0) (test row) here).1
        | inr later ↦ or_right (test row) (list_any test rows) (of_any rows s later)
      ]

-- the rows of what a process may write meet what lower ones may write just where it has a fault
pub meets_is : (d : Flat) (p : ℕ) (task : Task) → slice_get d.tasks p ≡ Some task → (masks : ℕ → ℕ) (rows : List Row) → ((s k : ℕ) → is_one_at (masks s) k ≡ lower_writes d p s k) → ((s k : ℕ) → has_rows rows s k ≡ written d task.does s k) → list_any (shares masks) rows ≡ true ↔ HasFault d p SeveralDrivers
meets_is d p task there masks rows lower own = (
  λ h. subst (λ o. IsSomeAnd o (λ one. IsFault d p one SeveralDrivers)) (sym there) (to h),
  λ h. back (subst (λ o. IsSomeAnd o (λ one. IsFault d p one SeveralDrivers)) there h),
)
  where
    same : (s : ℕ) → any_row (shares masks) rows s ≡ has_some (widths d) (λ i k. written d task.does i k && lower_writes d p i k) s
    same = shares_some masks (widths d) (written d task.does) (lower_writes d p) rows (written_inside (widths d) task.does) own lower

    to : list_any (shares masks) rows ≡ true → IsFault d p task SeveralDrivers
    to h =
        let (s, is) = any_of (shares masks) rows h in
        let some = sym (same s) ∙ is in
        (s, signal_there d.signals (λ k. written d task.does s k && lower_writes d p s k) s some, some)

    back : IsFault d p task SeveralDrivers → list_any (shares masks) rows ≡ true
    back (s, below, some) = of_any (shares masks) rows s (same s ∙ some)
