-- Which signals break a rule about the bits that a process may write.
use Rattle.std.proofs.Common.{ℕ, ◌≡◌, ◌∙◌, ◌<◌, Bool, true, false, not, cond, ◌&&◌, length, Option, Some, None, refl, sym, subst}
use Rattle.std.specs.Prelude.{List, slice_index_or}
use Rattle.std.proofs.lemmas.Bool.{false≢true}
use Rattle.text_ground.specs.declared.text.Spot.{Spot}
use Rattle.rtl_flat.specs.Flows.{flow_of}
use Rattle.rtl_flat.specs.Paths.{is_sure}
use Rattle.rtl_flat.specs.Process.{Task}
use Rattle.rtl_rule.specs.declared.rule.Rule.TheVariants.{LatchInferred, SeveralDrivers}
use Rattle.rtl_rule.specs.Parts.{has_some, within, written}
use Rattle.rtl_flat.specs.Flats.{Flat, widths}
use Rattle.net_model.specs.Gates.{Gate, IsAdmitted}
use Rattle.check_assign.specs.Assigned.{IsLatchInferred, IsSeveralDrivers, is_comb, latch_inferred_at, lower_writes, several_drivers_at}
use Rattle.check_assign.specs.Kept.{AreTemporaries}
use Rattle.check_assign.proofs.Below.{signal_there}
use Rattle.check_assign.proofs.Firsts.{is_kept, is_temporary}
use Rattle.check_loops.proofs.check_found_proofs.Shown.{Tells}

module _ (d : Flat) (p : ℕ) (task : Task) where
  pub several_tells : (s : ℕ) (b : Bool) → b ≡ has_some (widths d) (λ i k. written d task.does i k && lower_writes d p i k) s → (o : Option Spot) → o ≡ cond b (Some task.spot) None → Tells (IsSeveralDrivers d) several_drivers_at SeveralDrivers task.instance (p, task) s o
  several_tells s b is o marks =
      subst (Tells (IsSeveralDrivers d) several_drivers_at SeveralDrivers task.instance (p, task) s) (sym marks) (by_test b is)
    where
      by_test : (t : Bool) → t ≡ has_some (widths d) (λ i k. written d task.does i k && lower_writes d p i k) s → Tells (IsSeveralDrivers d) several_drivers_at SeveralDrivers task.instance (p, task) s (cond t (Some task.spot) None)
      by_test true e = (sym e, refl)
      by_test false e = λ broken. false≢true (e ∙ broken)

  pub several_inside : (s : ℕ) → IsSeveralDrivers d (within (p, task) s) → s < length d.signals
  several_inside s broken =
      signal_there d.signals (λ k. written d task.does s k && lower_writes d p s k) s broken

  abbrev left : ℕ → ℕ → Bool
  left i k = written d task.does i k && not (is_sure (flow_of (widths d) task.does) i k)

  pub latch_tells : (answers : List Bool) → AreTemporaries d answers → is_comb task.does ≡ true → ((gate : Gate) → IsAdmitted d p gate → ⊥) → (s : ℕ) (b : Bool) → b ≡ has_some (widths d) left s → (o : Option Spot) → o ≡ cond b (Some task.spot) None → Tells (IsLatchInferred d) latch_inferred_at LatchInferred task.instance (p, task) s (cond (not (slice_index_or answers s false)) o None)
  latch_tells answers are comb free s b is o marks =
      subst (λ (place : Option Spot). Tells (IsLatchInferred d) latch_inferred_at LatchInferred task.instance (p, task) s (cond (not (slice_index_or answers s false)) place None)) (sym marks)
      (by_tests (slice_index_or answers s false) b refl is)
    where
      by_tests : (t u : Bool) → slice_index_or answers s false ≡ t → u ≡ has_some (widths d) left s → Tells (IsLatchInferred d) latch_inferred_at LatchInferred task.instance (p, task) s (cond (not t) (cond u (Some task.spot) None) None)
      by_tests true u e found = λ broken. broken.kept (is_temporary d answers are s e)
      by_tests false true e found = (
        record { level = comb; not_admitted = free; leaves = sym found; kept = is_kept d answers are s e },
        refl,
      )
      by_tests false false e found = λ broken. false≢true (found ∙ broken.leaves)

  pub latch_inside : (s : ℕ) → IsLatchInferred d (within (p, task) s) → s < length d.signals
  latch_inside s broken = signal_there d.signals (left s) s broken.leaves
