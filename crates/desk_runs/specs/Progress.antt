-- It serves inner contracts and proofs; no answer of the program is stated by it.
-- How far a simulator is in a file of steps.
use Rattle.std.specs.Prelude.{◌≡◌, ◌<◌, ◌≤◌, ◌+◌, ◌-◌, ℕ, true, false, List, [], ◌++◌, length, map, take, Result, Ok, Err, ⊤}
use Rattle.std.specs.List.{All}
use Rattle.text_ground.specs.declared.memory.Memory.{Memory}
use Rattle.rtl_flat.specs.declared.design.Design.{Design}
use Rattle.rtl_flat.specs.Levels.{IsLevel}
use Rattle.event_model.specs.declared.policy.Policy.{Policy}
use Rattle.event_model.specs.Queue.{power_up}
use Rattle.rtl_flat.specs.Flats.{flat}
use Rattle.event_queue.specs.declared.sim.EventSim.{EventSim}
use Rattle.event_queue.specs.Sims.{flat_of, is_stuck, level_of, state_of}
use Rattle.desk_steps.specs.declared.file.Steps.{Steps as Read}
use Rattle.desk_steps.specs.Fitting.{AreFitting}
use Rattle.desk_steps.specs.Steps.{Setting, step, steps}
use Rattle.desk_runs.specs.declared.run.Run.{Run}
use Rattle.desk_runs.specs.declared.run.Progress.{Progress}
use Rattle.desk_runs.specs.declared.run.Progress.TheVariants.{Rested, Unsettled, Ended}
use Rattle.desk_runs.specs.Runs.{IsRun, IsSimulated, Shown, behind}

-- a simulator at rest behind steps that it took: what is shown of others stands behind what was written
pub record IsUnderWay (design : Design) (policy : Policy) (taken : List (List Setting)) (sim : EventSim) (bytes : List ℕ) : Type 0 where
  pub of_design : flat_of sim ≡ flat design
  pub levels : (p : ℕ) → p < length (flat design).tasks → IsLevel (flat design).signals (flat design).tasks p (level_of sim p)
  pub free : is_stuck sim ≡ false
  pub activated : (state_of sim).activated ≡ []
  pub delayed : (state_of sim).delayed ≡ []
  pub shows : (left : List (List Setting)) (others : Shown) → IsRun design.instances.items policy (level_of sim) (flat design) (length taken + 1) (state_of sim) left others → IsRun design.instances.items policy (level_of sim) (flat design) 1 (power_up (flat design)) (taken ++ left) (behind bytes others)

-- the design and the steps of a run
abbrev pub design_of : Run → Design
design_of run = run.design.now

abbrev pub steps_of : Run → Read
steps_of run = run.steps.now

-- a run whose lines so far are these
pub record IsAt (run : Run) (bytes : List ℕ) : Type 0 where
  pub fits : All (λ step. AreFitting (design_of run).signals.items step.items) (steps_of run).steps.items
  pub within : run.before ≤ length (steps_of run).steps.items
  pub under : IsUnderWay (design_of run) (steps_of run).policy (take run.before (map step (steps_of run).steps.items)) run.sim bytes

-- the steps show these lines
abbrev pub IsShown : Design → Read → Shown → Type 0
IsShown design read shown =
    IsSimulated design.signals.items (flat design).tasks design.instances.items (steps read) shown

-- the bytes are a front of lines that the steps show
pub record IsBegun (design : Design) (read : Read) (bytes : List ℕ) : Type 0 where
  pub shown : Shown
  pub is_shown : IsShown design read shown
  pub rest : List ℕ
  pub parts : shown.bytes ≡ bytes ++ rest

-- what is known where a run went on from these bytes by a line
abbrev pub Goes : Run → Run → Result Progress Memory → List ℕ → List ℕ → Type 0
Goes before now (Ok Rested) bytes line = IsAt now (bytes ++ line)
Goes before now (Ok Unsettled) bytes line =
    IsShown (design_of before) (steps_of before) (record { settled = false; bytes = bytes ++ line })
Goes before now (Ok Ended) bytes line =
    IsShown (design_of before) (steps_of before) (record { settled = true; bytes = bytes })
Goes before now (Err fault) bytes line = ⊤

-- how many steps are left
abbrev pub steps_left : Run → ℕ
steps_left run = length (steps_of run).steps.items - run.before
