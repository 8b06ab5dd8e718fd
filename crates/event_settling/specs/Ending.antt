-- In whatever order events are taken, every run comes to rest.
-- Worked examples: proofs/EndingExample.antt.
use Rattle.std.specs.Prelude.{◌≡◌, ℕ, zero, suc, ◌+◌, ◌*◌, ◌≤◌, List, [], ◌∷◌, ◌++◌, length, sum_by, Option, None, Some, IsTrue}
use Rattle.rtl_bits.specs.declared.Bit.{Bit}
use Rattle.rtl_flat.specs.Expression.{Tree}
use Rattle.rtl_flat.specs.Process.{Assign, Piece}
use Rattle.rtl_flat.specs.Value.{value}
use Rattle.event_model.specs.declared.policy.Policy.{Policy}
use Rattle.event_model.specs.Policies.{IsDone, PolicyRun, nonblocking_of, one_if}
use Rattle.event_model.specs.Queue.{State, Event, CanRun, IsAtRest, IsThere, doing_at, is_assignment, is_input_kind, offer, power_up, run}
use Rattle.rtl_flat.specs.Flats.{Flat}
use Rattle.event_runs.specs.event_laws.Steady.{HaveWidths}
use Rattle.event_runs.specs.Writers.{IsOrderly}
use Rattle.event_settling.specs.Settling.{Fits}

-- ---- how many events there are at most

-- how many events come of a process that wakes others, those again others, and so on, through so many levels: its own, and
-- those of as many processes as there are
abbrev pub come_of : ℕ → ℕ → ℕ → ℕ
come_of processes own zero = own
come_of processes own (suc levels) = own + processes * come_of processes own levels

-- how many come of an input, or of a nonblocking update, which may wake every process
abbrev pub wave : Flat → ℕ → ℕ
wave d own = come_of (length d.tasks) own (suc (length d.tasks))

-- behind the activation of nonblocking updates a process is evaluated, and its driver is updated
abbrev pub later_wave : Flat → ℕ
later_wave d = wave d 2

-- the nonblocking assignments of all processes
abbrev pub lates : Flat → ℕ
lates d = sum_by (λ task. nonblocking_of task.does) d.tasks

-- before it a process may also make updates, which are activated, and come with what comes of them
abbrev pub first_wave : Flat → ℕ
first_wave d = wave d (2 + lates d * suc (later_wave d))

abbrev pub inputs_of : Flat → ℕ
inputs_of d = sum_by (λ signal. one_if (is_input_kind signal.kind)) d.signals

-- how many events a step has: those that come of inputs, and those of processes that are woken where it starts, as all are
-- that assign continuously at power-up
abbrev pub bound : Flat → ℕ
bound d = suc (inputs_of d) * first_wave d

-- ---- where steps start

-- a state in which a step starts: updates are offered to inputs, processes may be woken, and nothing else is left
pub record IsStart (d : Flat) (s : State) : Type 0 where
  pub orderly : IsOrderly d s
  pub drivers : (p : ℕ) → IsTrue (is_assignment (doing_at d p)) → s.pending p ≡ None
  pub activated : s.activated ≡ []
  pub delayed : s.delayed ≡ []

-- a state at rest whose drivers have the values of their expressions
pub record IsHeld (d : Flat) (s : State) : Type 0 where
  pub rest : IsAtRest d s
  pub wide : HaveWidths d s.value
  pub drivers :
      (p : ℕ) (target : List Piece) (e : Tree) → doing_at d p ≡ Some (Assign target e) →
      s.driver p ≡ value s.value e

-- states that steps start from: power-up, states that are held, and where the run of a step came to rest, in any order
pub data IsReached (d : Flat) : State → Type 0 where
  PowerUp : IsReached d (power_up d)
  Held : (s : State) → IsHeld d s → IsReached d s
  Stepped :
      (s t : State) (step : List (ℕ × List Bit)) (events : List Event) →
      IsReached d s → Fits d step → CanRun d (offer s step) events →
      run d (offer s step) events ≡ t → IsAtRest d t → IsReached d t

abbrev pub StepsStart : Flat → Type 0
StepsStart d =
    (s : State) (step : List (ℕ × List Bit)) → IsReached d s → Fits d step → IsStart d (offer s step)

-- ---- simulators

-- no event is left to be taken
abbrev pub IsStuck : Flat → State → Type 0
IsStuck d s = (event : Event) → IsThere d s event → ⊥

abbrev pub StopsAtRest : Flat → Type 0
StopsAtRest d = (s : State) → IsStuck d s → IsAtRest d s

-- which event is taken next, if any, behind those that were taken
abbrev pub Choice : Type 0
Choice = List Event → Option Event

-- it is one that is there; and there is one, as long as any is there
abbrev pub IsFit : Flat → State → Option Event → Type 0
IsFit d s None = IsStuck d s
IsFit d s (Some event) = IsThere d s event

abbrev pub IsSimulator : Flat → State → Choice → Type 0
IsSimulator d s choice = (events : List Event) → CanRun d s events → IsFit d (run d s events) (choice events)

-- the events that are taken in so many rounds
abbrev pub with_next : List Event → Option Event → List Event
with_next events None = events
with_next events (Some event) = events ++ event ∷ []

abbrev pub first_events : Choice → ℕ → List Event
first_events choice zero = []
first_events choice (suc n) = with_next (first_events choice n) (choice (first_events choice n))

-- ---- how runs end

-- some further events lead to rest
pub record ComesToRest (d : Flat) (s : State) : Type 0 where
  pub events : List Event
  pub can : CanRun d s events
  pub rest : IsAtRest d (run d s events)

-- no run from a state has more events than the bound; each of them leads to rest by some further events; and so does
-- every simulator that takes events as long as any is there
pub record AllEnd (d : Flat) (s : State) : Type 0 where
  pub bounded : (events : List Event) → CanRun d s events → length events ≤ bound d
  pub further : (events : List Event) → CanRun d s events → ComesToRest d (run d s events)
  pub simulated :
      (choice : Choice) → IsSimulator d s choice →
      CanRun d s (first_events choice (bound d)) × IsAtRest d (run d s (first_events choice (bound d)))

abbrev pub Ends : Flat → Type 0
Ends d = (s : State) → IsStart d s → AllEnd d s

-- a run of the desk's simulator in one of its orders, to where no event is left, with what it costs
pub record PolicyRests (policy : Policy) (level : ℕ → Option ℕ) (d : Flat) (s : State) : Type 0 where
  pub spent : ℕ
  pub state : State
  pub run : PolicyRun policy level d s spent state
  pub done : IsDone policy level d state
  pub rest : IsAtRest d state

-- there is one in each of its orders, and by whatever levels
abbrev pub PoliciesRest : Flat → Type 0
PoliciesRest d =
    (policy : Policy) (level : ℕ → Option ℕ) (s : State) → IsStart d s → PolicyRests policy level d s

-- from power-up, from states that are held, and from where the run of an earlier step came to rest, every run of every step
-- comes to rest
abbrev pub RunsEnd : Flat → Type 0
RunsEnd d =
    (s : State) (step : List (ℕ × List Bit)) → IsReached d s → Fits d step → AllEnd d (offer s step)
