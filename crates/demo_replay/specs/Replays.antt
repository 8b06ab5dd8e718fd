-- What a demonstration shows when its trial is run again, or why it shows nothing.
-- Worked examples: crates/tests_rows/stdin.
use Rattle.std.specs.Prelude.{◌≡◌, ◌≢◌, ◌<◌, ◌≤◌, ◌+◌, ◌⊎◌, ℕ, List, length}
use Rattle.rtl_bits.specs.declared.Bit.{Bit}
use Rattle.rtl_flat.specs.PathSets.{IsTemporary}
use Rattle.event_model.specs.Queue.{State}
use Rattle.event_model.specs.Writes.{Values}
use Rattle.net_model.specs.Solution.{IsLasting}
use Rattle.netlist_eval.specs.net_start.Stored.{AreInputs}
use Rattle.rtl_flat.specs.Flats.{Flat}
use Rattle.demo_trials.specs.Trials.{step_count}
use Rattle.demo_told.specs.declared.demo.Demo.{Demo}
use Rattle.demo_told.specs.declared.demo.Shown.{Shown}
use Rattle.demo_replay.specs.declared.fault.Part.{Part}
use Rattle.demo_replay.specs.declared.fault.Part.TheVariants as part
use Rattle.demo_replay.specs.declared.fault.ReplayFault.{ReplayFault}
use Rattle.demo_replay.specs.declared.fault.ReplayFault.TheVariants.{Illegal, NoNetlist, Unsettled, Same, Memory}
use Rattle.demo_replay.specs.Setups.{Setup, IsSetup, LacksNetlist}
use Rattle.demo_replay.specs.Runs.{IsStuck, Moment, Reaches}

-- ---- what a demonstration names

-- a step of the trial, for the top inputs of the design
pub record IsStep (d : Flat) (trial step : ℕ) : Type 0 where
  pub tops : List ℕ
  pub are_tops : AreInputs d tops
  pub first : 1 ≤ step
  pub last : step ≤ step_count trial (length tops)

-- a step before the first, or behind the last
pub record IsNoStep (d : Flat) (trial step : ℕ) : Type 0 where
  pub tops : List ℕ
  pub are_tops : AreInputs d tops
  pub outside : (step ≡ 0) ⊎ (step_count trial (length tops) < step)

-- a trial, a step of it, and a signal that is no temporary
pub record IsLegal (d : Flat) (demo : Demo) : Type 0 where
  pub trial : demo.trial ≤ 32
  pub step : IsStep d demo.trial demo.step
  pub inside : demo.signal.0 < length d.signals
  pub lasting : IsLasting d demo.signal.0

-- the first part of a demonstration that names nothing
abbrev pub IsIllegal : Flat → Demo → Part → Type 0
IsIllegal d demo part.Trial = 32 < demo.trial
IsIllegal d demo part.Step = (demo.trial ≤ 32) × IsNoStep d demo.trial demo.step
IsIllegal d demo part.Signal =
    (demo.trial ≤ 32)
    × IsStep d demo.trial demo.step
    × ((length d.signals ≤ demo.signal.0)
    ⊎ IsTemporary d.signals d.tasks demo.signal.0)

-- ---- what it shows

-- the two values after the step
pub record Gives (d : Flat) (demo : Demo) (simulated synthesised : List Bit) : Type 0 where
  pub setup : Setup
  pub is_setup : IsSetup d setup
  pub moments : List Moment
  pub state : State
  pub numbers : Values
  pub reaches : Reaches d setup demo.trial moments state numbers
  pub count : length moments ≡ demo.step
  pub simulated_is : simulated ≡ state.value demo.signal.0
  pub synthesised_is : synthesised ≡ numbers demo.signal.0

-- a step that doesn't settle, up to the demonstration's
pub record IsUnsettled (d : Flat) (demo : Demo) (step : ℕ) : Type 0 where
  pub setup : Setup
  pub is_setup : IsSetup d setup
  pub moments : List Moment
  pub stuck : IsStuck d setup demo.trial moments
  pub count : length moments + 1 ≡ step
  pub before : step ≤ demo.step

-- two values that differ
pub record IsReplayed (d : Flat) (demo : Demo) (shown : Shown) : Type 0 where
  pub legal : IsLegal d demo
  pub gives : Gives d demo shown.simulated shown.synthesised
  pub differ : shown.simulated ≢ shown.synthesised

-- why it shows nothing
abbrev pub IsReplayFault : Flat → Demo → ReplayFault → Type 0
IsReplayFault d demo (Illegal part) = IsIllegal d demo part
IsReplayFault d demo NoNetlist = IsLegal d demo × LacksNetlist d
IsReplayFault d demo (Unsettled step) = IsLegal d demo × IsUnsettled d demo step
IsReplayFault d demo (Same value) = IsLegal d demo × Gives d demo value value
IsReplayFault d demo Memory = Unit {0}
