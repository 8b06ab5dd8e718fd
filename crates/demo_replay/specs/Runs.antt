-- What a trial of a design shows: after each step the values of the simulator, which takes events
-- in the trial's order (IEEE 1364-2001 clause 5), and the numbers of the netlist (IEEE 1364.1-2002
-- section 5.2).
-- Worked examples: crates/tests_rows/stdin.
use Rattle.std.specs.Prelude.{◌≡◌, ◌==◌, ◌<◌, ◌+◌, ℕ, Bool, true, false, List, [], ◌∷◌, ◌++◌, length, map, replicate, Option}
use Rattle.rtl_bits.specs.declared.Bit.TheVariants.{X}
use Rattle.rtl_flat.specs.Levels.{IsLevel}
use Rattle.rtl_flat.specs.PathSets.{IsTemporary}
use Rattle.rtl_flat.specs.Flats.{Flat, widths}
use Rattle.event_model.specs.declared.setting.Setting.{Setting}
use Rattle.event_model.specs.Policies.{IsDone, IsTooDear, PolicyRun, budget}
use Rattle.event_model.specs.Queue.{State, offer, power_up, settled_at}
use Rattle.event_model.specs.Writes.{Values}
use Rattle.event_queue.specs.Offers.{set_of}
use Rattle.net_model.specs.Cycle.{Chain, IsCycle}
use Rattle.net_model.specs.Solution.{IsLasting}
use Rattle.net_model.specs.declared.fill.Fill.{Fill}
use Rattle.netlist_eval.specs.net_list.Chosen.{chains_of}
use Rattle.netlist_eval.specs.declared.step.Step.{Step}
use Rattle.netlist_eval.specs.Steps.{IsBegun, IsStepOf, step_view}
use Rattle.demo_trials.specs.Steps.{Input, step_of}
use Rattle.demo_trials.specs.Trials.{fill_of, policy_of, step_count}
use Rattle.demo_replay.specs.Setups.{Setup, HasNetlist, first_value, path_of}

-- what is there after a step
pub record Moment : Type 0 where
  pub simulated : Values
  pub synthesised : Values

-- ---- where a trial begins

-- the numbers of the netlist
abbrev pub AreFirst : Flat → Setup → ℕ → Values → Type 0
AreFirst d setup trial n =
    IsBegun d (chains_of d) (fill_of trial)
    (map (first_value d trial) setup.stored) (map (first_value d trial) setup.tops) n

-- values that are numbers, but for temporaries, which are x
pub record AreTaken (d : Flat) (n v : Values) : Type 0 where
  pub lasting : (i : ℕ) → IsLasting d i → v i ≡ n i
  pub temporaries : (i : ℕ) → IsTemporary d.signals d.tasks i → v i ≡ replicate (widths d i) X

-- the state of the simulator: at power-up, or at the numbers with nothing to be done
abbrev pub IsFirstState : Flat → Bool → Values → State → Type 0
IsFirstState d true n s = s ≡ power_up d
IsFirstState d false n s = (v : Values) × AreTaken d n v × (s ≡ settled_at d v)

-- ---- a step

-- a top input as the steps of trials see it
abbrev pub input_of : Flat → Setup → Values → ℕ → Input
input_of d setup n i =
    record {
      signal = record { 0 = i };
      path = path_of d i;
      is_control = setup.is_control i;
      value = n i;
    }

-- what a step sets, where inputs have some numbers before it
abbrev pub settings_of : Flat → Setup → ℕ → ℕ → Values → List Setting
settings_of d setup trial step n =
    step_of trial step (map (input_of d setup n) setup.tops)

-- the policy's run comes to rest within the budget
pub record Rests (d : Flat) (level : ℕ → Option ℕ) (trial : ℕ) (settings : List Setting) (s t : State) : Type 0 where
  pub spent : ℕ
  pub left : ℕ
  pub all : left + spent ≡ budget d
  pub run : PolicyRun (policy_of trial) level d (offer s (map set_of settings)) spent t
  pub done : IsDone (policy_of trial) level d t

-- it comes to an event that costs more than is left of the budget
pub record Stops (d : Flat) (level : ℕ → Option ℕ) (trial : ℕ) (settings : List Setting) (s : State) : Type 0 where
  pub state : State
  pub spent : ℕ
  pub left : ℕ
  pub all : left + spent ≡ budget d
  pub run : PolicyRun (policy_of trial) level d (offer s (map set_of settings)) spent state
  pub dear : IsTooDear (policy_of trial) level d state left

-- the numbers after settings, as a step of the netlist
pub record Cycles (d : Flat) (chains : ℕ → Chain) (f : Fill) (settings : List Setting) (old new : Values) : Type 0 where
  pub step : Step
  pub is_step : IsStepOf d settings step
  pub cycle : IsCycle d chains f old (step_view step) new

-- the numbers after a step: where the trial begins at power-up, those with which the netlist began
abbrev pub GoOn : Flat → Bool → ℕ → List Setting → Values → Values → Type 0
GoOn d true trial settings old new = new ≡ old
GoOn d false trial settings old new =
    Cycles d (chains_of d) (fill_of trial) settings old new

-- ---- a trial

-- what is there after each of some steps, and the state and the numbers after the last
pub data IsAfter (d : Flat) (setup : Setup) (level : ℕ → Option ℕ) (trial : ℕ) : List Moment → State → Values → Type 0 where
  Begun :
      (s : State) (n : Values) →
      AreFirst d setup trial n → IsFirstState d (trial == 32) n s →
      IsAfter d setup level trial [] s n
  Stepped :
      (moments : List Moment) (s t : State) (n m : Values) →
      IsAfter d setup level trial moments s n →
      length moments < step_count trial (length setup.tops) →
      Rests d level trial (settings_of d setup trial (length moments + 1) n) s t →
      GoOn d (trial == 32) trial (settings_of d setup trial (length moments + 1) n) n m →
      IsAfter d setup level trial
      (moments ++ record { simulated = t.value; synthesised = m } ∷ []) t m

-- the same, in a design that has a netlist, by levels that are those of the design's processes
pub record Reaches (d : Flat) (setup : Setup) (trial : ℕ) (moments : List Moment) (s : State) (n : Values) : Type 0 where
  pub netlist : HasNetlist d
  pub level : ℕ → Option ℕ
  pub levels :
      (p : ℕ) → p < length d.tasks →
      IsLevel d.signals d.tasks p (level p)
  pub after : IsAfter d setup level trial moments s n

-- the step behind some doesn't settle
pub record IsStuck (d : Flat) (setup : Setup) (trial : ℕ) (moments : List Moment) : Type 0 where
  pub netlist : HasNetlist d
  pub level : ℕ → Option ℕ
  pub levels :
      (p : ℕ) → p < length d.tasks →
      IsLevel d.signals d.tasks p (level p)
  pub state : State
  pub numbers : Values
  pub after : IsAfter d setup level trial moments state numbers
  pub more : length moments < step_count trial (length setup.tops)
  pub stops :
      Stops d level trial (settings_of d setup trial (length moments + 1) numbers)
      state

-- all that a trial shows: after each of its steps, or after those before the first that doesn't
-- settle
pub data IsCourse (d : Flat) (setup : Setup) (trial : ℕ) (moments : List Moment) : Type 0 where
  Ended :
      (s : State) (n : Values) → Reaches d setup trial moments s n →
      length moments ≡ step_count trial (length setup.tops) → IsCourse d setup trial moments
  Stopped : IsStuck d setup trial moments → IsCourse d setup trial moments
