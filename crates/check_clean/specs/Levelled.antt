-- The order by level, in a design without a finding of the first grade: no step is stopped for its budget.
-- Worked examples: crates/tests_rows/stdin.
use Rattle.std.specs.Prelude.{◌≡◌, ◌+◌, ◌<◌, ◌≤◌, ℕ, List, length, Option}
use Rattle.rtl_bits.specs.declared.Bit.{Bit}
use Rattle.rtl_flat.specs.Flats.{Flat}
use Rattle.rtl_flat.specs.Levels.{IsLevel}
use Rattle.event_model.specs.declared.policy.Policy.TheVariants.{Level}
use Rattle.event_model.specs.Policies.{IsTooDear, PolicyRun, budget}
use Rattle.event_model.specs.Queue.{State, IsAtRest, offer}
use Rattle.check_laws.specs.event_settling.Ending.{IsReached}
use Rattle.check_laws.specs.event_settling.Settling.{Fits}

-- the levels of the processes
abbrev pub AreLevels : Flat → (ℕ → Option ℕ) → Type 0
AreLevels d level = (p : ℕ) → p < length d.tasks → IsLevel d.signals d.tasks p (level p)

-- a run by level to rest, within the budget of a step
pub record RestsWithin (d : Flat) (level : ℕ → Option ℕ) (s : State) : Type 0 where
  pub spent : ℕ
  pub state : State
  pub run : PolicyRun Level level d s spent state
  pub within : spent ≤ budget d
  pub rest : IsAtRest d state

-- from power-up, from each settled state, and from where the run of an earlier step came to rest, a step that offers inputs no
-- more bits than they have comes to rest within its budget, and no event on the way is dearer than what is left of it
pub record RestsByLevel (d : Flat) (level : ℕ → Option ℕ) : Type 0 where
  pub rests :
      (s : State) (step : List (ℕ × List Bit)) → IsReached d s → Fits d step → RestsWithin d level (offer s step)
  pub never_dear :
      (s t : State) (step : List (ℕ × List Bit)) (spent left : ℕ) → IsReached d s → Fits d step →
      PolicyRun Level level d (offer s step) spent t → left + spent ≡ budget d → IsTooDear Level level d t left → ⊥
