-- The first difference that trials show for a finding: in the least trial, there after the least
-- step, and then of the least signal.
-- Worked examples: crates/tests_rows/stdin.
use Rattle.std.specs.Prelude.{◌≡◌, ◌<◌, ℕ, suc, Bool, true, not, ◌&&◌, List, [], ◌∷◌, length, Option, Some, None}
use Rattle.std.specs.List.{slice_get}
use Rattle.rtl_bits.specs.declared.Bit.{Bit}
use Rattle.rtl_flat.specs.declared.expr.SigId.{SigId}
use Rattle.rtl_rule.specs.declared.finding.Finding.{Finding}
use Rattle.rtl_rule.specs.Parts.{first_below}
use Rattle.rtl_flat.specs.Flats.{Flat}
use Rattle.demo_told.specs.Same.{are_same}
use Rattle.demo_told.specs.declared.demo.Demo.{Demo}
use Rattle.demo_told.specs.declared.demo.Shown.{Shown as Values}
use Rattle.demo_replay.specs.Compared.{AreCompared, is_trial_of}
use Rattle.demo_replay.specs.Setups.{Setup, IsSetup, LacksNetlist}
use Rattle.demo_replay.specs.Runs.{IsCourse, Moment}

-- ---- in one trial

-- whether a signal shows another value than its number
abbrev pub differs : Moment → ℕ → Bool
differs m s = not (are_same (m.simulated s) (m.synthesised s))

-- the least of so many signals that differs, among those that are compared
abbrev pub first_signal : ℕ → (ℕ → Bool) → Moment → Option SigId
first_signal count compared m = first_below count (λ s. compared s && differs m s)

-- where a difference shows, and the two values
pub record Place : Type 0 where
  pub step : ℕ
  pub signal : ℕ
  pub simulated : List Bit
  pub synthesised : List Bit

-- the place of a signal, or else another
abbrev pub place_or : ℕ → Moment → Option SigId → Option Place → Option Place
place_or step m None otherwise = otherwise
place_or step m (Some s) otherwise =
    Some (record {
      step = step;
      signal = s.0;
      simulated = m.simulated s.0;
      synthesised = m.synthesised s.0;
    })

-- the first place in what is there after steps, which are numbered from one on
abbrev pub first_place : ℕ → (ℕ → Bool) → ℕ → List Moment → Option Place
first_place count compared step [] = None
first_place count compared step (m ∷ others) =
    place_or step m (first_signal count compared m) (first_place count compared (suc step) others)

-- a trial shows a first place, or none
pub record Shows (d : Flat) (setup : Setup) (compared : ℕ → Bool) (trial : ℕ) (found : Option Place) : Type 0 where
  pub moments : List Moment
  pub course : IsCourse d setup trial moments
  pub first : first_place (length d.signals) compared 1 moments ≡ found

-- ---- of all trials

-- a trial, and a place in it
pub record Told : Type 0 where
  pub trial : ℕ
  pub place : Place

-- what a contract sees of a demonstration
abbrev pub told : Option (Demo × Values) → Option Told
told None = None
told (Some (demo, shown)) =
    Some (record {
      trial = demo.trial;
      place = record {
        step = demo.step;
        signal = demo.signal.0;
        simulated = shown.simulated;
        synthesised = shown.synthesised;
      };
    })

-- what is shown for a finding: nothing where the design has no netlist, as no trial is run then;
-- nothing where no trial of the finding's rule shows a difference, or none can show one; or the
-- first place in the first such trial that does
pub data IsFirst (d : Flat) (finding : Finding) : Option Told → Type 0 where
  NoNetlist : LacksNetlist d → IsFirst d finding None
  Nothing :
      (setup : Setup) (compared : ℕ → Bool) →
      IsSetup d setup → AreCompared d finding compared →
      ((trial : ℕ) → is_trial_of finding.rule trial ≡ true →
      Shows d setup compared trial None) →
      IsFirst d finding None
  Never :
      ((setup : Setup) (compared : ℕ → Bool) (trial : ℕ) (place : Place) →
      IsSetup d setup → AreCompared d finding compared →
      is_trial_of finding.rule trial ≡ true → Shows d setup compared trial (Some place) → ⊥) →
      IsFirst d finding None
  Here :
      (setup : Setup) (compared : ℕ → Bool) (trial : ℕ) (place : Place) →
      IsSetup d setup → AreCompared d finding compared →
      is_trial_of finding.rule trial ≡ true → Shows d setup compared trial (Some place) →
      ((lower : ℕ) → lower < trial → is_trial_of finding.rule lower ≡ true →
      Shows d setup compared lower None) →
      IsFirst d finding (Some (record { trial = trial; place = place }))

-- what is shown for each of some findings
pub record AreFirsts (d : Flat) (findings : List Finding) (found : List (Option Told)) : Type 0 where
  pub count : length found ≡ length findings
  pub each :
      (k : ℕ) (finding : Finding) (one : Option Told) →
      slice_get findings k ≡ Some finding → slice_get found k ≡ Some one →
      IsFirst d finding one
