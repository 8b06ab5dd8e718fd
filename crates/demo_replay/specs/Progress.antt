-- It serves inner contracts and proofs; no answer of the program is stated by it.
-- How far a trial is.
use Rattle.std.specs.Prelude.{◌≡◌, ◌<◌, ◌≤◌, ◌+◌, ◌-◌, ◌==◌, ◌&&◌, ℕ, Bool, false, List, [], ◌∷◌, ◌++◌, length, Result, Ok, Err, ⊤}
use Rattle.text_ground.specs.declared.memory.Memory.{Memory}
use Rattle.rtl_flat.specs.declared.design.Design.{Design}
use Rattle.rtl_flat.specs.Levels.{IsLevel}
use Rattle.rtl_flat.specs.Flats.{flat, Flat, widths}
use Rattle.event_model.specs.declared.setting.Setting.{Setting}
use Rattle.event_model.specs.Queue.{is_input}
use Rattle.event_model.specs.Writes.{Values}
use Rattle.event_queue.specs.declared.sim.EventSim.{EventSim}
use Rattle.event_queue.specs.Sims.{flat_of, is_stuck, level_of, state_of}
use Rattle.net_model.specs.Numbers.{AreNumbers}
use Rattle.netlist_eval.specs.declared.sim.NetSim.{NetSim}
use Rattle.netlist_eval.specs.Sims.{netlist_of, shown}
use Rattle.netlist_eval.specs.declared.step.Step.{Step}
use Rattle.netlist_eval.specs.Steps.{HasNoCycle, IsLawful, IsStepOf}
use Rattle.demo_trials.specs.Trials.{fill_of, step_count}
use Rattle.demo_replay.specs.declared.fault.ReplayFault.{ReplayFault}
use Rattle.demo_replay.specs.declared.fault.ReplayFault.TheVariants as fault
use Rattle.demo_replay.specs.declared.setup.Setup.{Setup as Kept}
use Rattle.demo_replay.specs.declared.run.Progress.{Progress}
use Rattle.demo_replay.specs.declared.run.Progress.TheVariants.{Rested, Unsettled, Ended}
use Rattle.demo_replay.specs.declared.run.Run.{Run}
use Rattle.demo_replay.specs.Runs.{AreFirst, IsAfter, IsStuck, Moment}
use Rattle.demo_replay.specs.Tables.{IsNetlistOf, IsOf, plain}

-- the design of a trial under way
abbrev pub design_of : Run → Design
design_of run = run.setup.now.design.now

-- the number of its trial
abbrev pub trial_of : Run → ℕ
trial_of run = run.trial.number

-- how many steps it has
abbrev pub count_of : Run → ℕ
count_of run = step_count (trial_of run) (length (plain run.setup.now).tops)

-- what is there now
abbrev pub moment_of : EventSim → NetSim → Moment
moment_of sim net = record { simulated = (state_of sim).value; synthesised = shown net }

-- a simulator at rest
pub record IsResting (design : Design) (sim : EventSim) : Type 0 where
  pub of_design : flat_of sim ≡ flat design
  pub levels :
      (p : ℕ) → p < length (flat design).tasks →
      IsLevel (flat design).signals (flat design).tasks p (level_of sim p)
  pub free : is_stuck sim ≡ false
  pub activated : (state_of sim).activated ≡ []
  pub delayed : (state_of sim).delayed ≡ []

-- a trial that took so many steps, after which these were there
pub record IsAfterSteps (kept : Kept) (trial : ℕ) (sim : EventSim) (net : NetSim) (taken : ℕ) (moments : List Moment) : Type 0 where
  pub is_of : IsOf kept.design.now kept
  pub no_cycle : HasNoCycle (flat kept.design.now)
  pub resting : IsResting kept.design.now sim
  pub netlist : IsNetlistOf kept.design.now (fill_of trial) (netlist_of net)
  pub numbers : AreNumbers (flat kept.design.now) (shown net)
  pub count : length moments ≡ taken
  pub after :
      IsAfter (flat kept.design.now) (plain kept) (level_of sim) trial moments (state_of sim)
      (shown net)

-- a trial under way that took the steps after which these were there
abbrev pub IsAt : Run → List Moment → Type 0
IsAt run moments =
    IsAfterSteps run.setup.now (trial_of run) run.sim run.net run.taken moments

-- what is known where a trial went on
abbrev pub Goes : Run → Run → Result Progress Memory → List Moment → Type 0
Goes before now (Ok Rested) moments =
    IsAt now (moments ++ moment_of now.sim now.net ∷ []) × (length moments < count_of before)
Goes before now (Ok Unsettled) moments =
    IsStuck (flat (design_of before)) (plain before.setup.now) (trial_of before) moments
Goes before now (Ok Ended) moments = length moments ≡ count_of before
Goes before now (Err fault) moments = ⊤

-- how many steps are left
abbrev pub steps_left : Run → ℕ
steps_left run = count_of run - run.taken

-- a netlist where a trial begins
pub record IsFirstNet (kept : Kept) (trial : ℕ) (net : NetSim) : Type 0 where
  pub netlist : IsNetlistOf kept.design.now (fill_of trial) (netlist_of net)
  pub no_cycle : HasNoCycle (flat kept.design.now)
  pub numbers : AreNumbers (flat kept.design.now) (shown net)
  pub first : AreFirst (flat kept.design.now) (plain kept) trial (shown net)

-- whether a signal is an input of a width
abbrev pub fits : Flat → ℕ → ℕ → Bool
fits d i width = is_input d i && (width == widths d i)

-- settings are a step that may be taken
abbrev pub TurnsLawfully : Flat → Values → List Setting → Type 0
TurnsLawfully d n settings = (step : Step) → IsStepOf d settings step → IsLawful d n step

-- why the steps of a trial aren't taken up to one
abbrev pub IsStepFault : Run → ℕ → ReplayFault → Type 0
IsStepFault run last (fault.Unsettled step) =
    (moments : List Moment)
    × IsStuck (flat (design_of run)) (plain run.setup.now) (trial_of run) moments
    × (length moments + 1 ≡ step)
    × (step ≤ last)
IsStepFault run last fault.Memory = Unit {0}
IsStepFault run last fault.NoNetlist = ⊥
IsStepFault run last (fault.Illegal part) = ⊥
IsStepFault run last (fault.Same value) = ⊥
