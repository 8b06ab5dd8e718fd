-- What a simulator shows of the steps of a file.
-- Worked examples: crates/tests_rows/stdin.
use Rattle.std.specs.Prelude.{◌≡◌, ◌<◌, ◌+◌, ℕ, Bool, true, false, List, [], ◌∷◌, ◌++◌, length, map, Option}
use Rattle.rtl_flat.specs.declared.instance.Instance.{Instance}
use Rattle.rtl_flat.specs.declared.signal.Signal.{Signal}
use Rattle.rtl_flat.specs.Levels.{IsLevel}
use Rattle.rtl_flat.specs.Process.{Task}
use Rattle.event_model.specs.declared.policy.Policy.{Policy}
use Rattle.event_model.specs.Policies.{IsDone, IsTooDear, PolicyRun, budget}
use Rattle.event_model.specs.Queue.{State, offer, power_up}
use Rattle.rtl_flat.specs.Flats.{Flat}
use Rattle.desk_steps.specs.Steps.{Setting, Steps}
use Rattle.desk_runs.specs.Lines.{rested_line, unsettled_line}

-- whether all steps came to rest, and the lines
pub record Shown : Type 0 where
  pub settled : Bool
  pub bytes : List ℕ

-- lines before others
abbrev pub behind : List ℕ → Shown → Shown
behind bytes others = record { settled = others.settled; bytes = bytes ++ others.bytes }

-- a step gives values to inputs
abbrev pub offered : State → List Setting → State
offered s settings = offer s (map (λ setting. (setting.signal, setting.bits)) settings)

-- steps from a number and a state on: each begins with the state in which the one before it came to rest
pub data IsRun (instances : List Instance) (policy : Policy) (level : ℕ → Option ℕ) (d : Flat) : ℕ → State → List (List Setting) → Shown → Type 0 where
  -- no step is left
  Ended : (number : ℕ) (s : State) → IsRun instances policy level d number s [] (record { settled = true; bytes = [] })
  -- the policy's run comes to rest within the budget
  Rested : (number spent left : ℕ) (s t : State) (step : List Setting) (steps : List (List Setting)) (others : Shown) → left + spent ≡ budget d → PolicyRun policy level d (offered s step) spent t → IsDone policy level d t → IsRun instances policy level d (number + 1) t steps others → IsRun instances policy level d number s (step ∷ steps) (behind (rested_line instances d.signals number t.value) others)
  -- it comes to an event that costs more than is left of the budget
  Stopped : (number spent left : ℕ) (s t : State) (step : List Setting) (steps : List (List Setting)) → left + spent ≡ budget d → PolicyRun policy level d (offered s step) spent t → IsTooDear policy level d t left → IsRun instances policy level d number s (step ∷ steps) (record { settled = false; bytes = unsettled_line number })

-- the steps of a file from power-up, by levels that are those of the design's processes
pub record IsSimulated (signals : List Signal) (tasks : List Task) (instances : List Instance) (steps : Steps) (shown : Shown) : Type 0 where
  pub level : ℕ → Option ℕ
  pub levels : (p : ℕ) → p < length tasks → IsLevel signals tasks p (level p)
  pub run : IsRun instances steps.policy level (record { signals = signals; tasks = tasks }) 1 (power_up (record { signals = signals; tasks = tasks })) steps.steps shown
