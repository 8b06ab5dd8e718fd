-- Signals that have to be recorded.
use Rattle.std.proofs.Common.{◌≡◌, ◌∙◌, ◌<◌, ℕ, Bool, true, false, not, List, length, refl, sym, subst}
use Rattle.std.specs.Prelude.{◌↔◌}
use Rattle.std.proofs.lemmas.Bool.{false≢true}
use Rattle.rtl_flat.specs.Flats.{Flat}
use Rattle.netlist_eval.specs.net_start.rtl_scan.Arrows.{Among}
use Rattle.vcd_signals.specs.vcd_read.Reading.{Dump}
use Rattle.vcd_signals.specs.Signals.{is_recorded}
use Rattle.vcd_check.specs.Checks.{AreMarks, AreNone, IsFirst, is_marked}
use Rattle.vcd_check.specs.Verdicts.{AreRecorded, IsMissing}

true_from : (b : Bool) → not b ≡ false → b ≡ true
true_from true h = refl
true_from false h = absurd (false≢true (sym h))

false_from : (b : Bool) → not b ≡ true → b ≡ false
false_from true h = absurd (false≢true h)
false_from false h = refl

module _ (P : ℕ → Type 0) (d : Flat) (scope : List ℕ) (text : Dump) (n : ℕ) (signals : List ℕ) (marks : List Bool) (each : (i : ℕ) → Among signals i ↔ P i) (inside : (i : ℕ) → P i → i < n) (are : AreMarks n signals marks) where
  is_asked : (i : ℕ) → P i → is_marked marks i ≡ true
  is_asked i holds = (are.each i).1 (inside i holds, (each i).1 holds)

  pub all_recorded : AreNone (is_marked marks) (λ i. not (is_recorded d scope text i)) (length marks) → AreRecorded P d scope text
  all_recorded none i holds =
      true_from (is_recorded d scope text i)
      (none i (subst (λ (m : ℕ). i < m) (sym are.count) (inside i holds)) (is_asked i holds))

  pub missing : (signal : ℕ) → IsFirst (is_marked marks) (λ i. not (is_recorded d scope text i)) (length marks) signal → IsMissing P d scope text signal
  missing signal is = record {
    is = (each signal).0 ((are.each signal).0 is.asked_is).1;
    missing = false_from (is_recorded d scope text signal) is.fails_is;
    first = λ i below holds. true_from (is_recorded d scope text i) (is.before i below (is_asked i holds));
  }
