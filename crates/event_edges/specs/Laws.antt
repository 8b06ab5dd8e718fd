-- Steps of clocks, of resets and of data in every order of events.
use Rattle.std.specs.Prelude.{◌≡◌, ◌≢◌, ℕ, Bool, false, if◌then◌else◌, List, [], ◌∷◌, Some}
use Rattle.std.specs.List.{All}
use Rattle.rtl_bits.specs.declared.Bit.{Bit}
use Rattle.rtl_flat.specs.Flows.{body_flow}
use Rattle.rtl_flat.specs.Paths.{MayWrite}
use Rattle.rtl_flat.specs.Process.{Watched, Actions, Edge'}
use Rattle.event_model.specs.Bodies.{body_made}
use Rattle.event_model.specs.Queue.{State, Event, Activate, CanRun, HasNoActive, IsAtRest, IsThere, after, doing_at, offer, power_up, run}
use Rattle.rtl_flat.specs.Flats.{Flat, widths}
use Rattle.event_model.specs.Traces.{FollowsPath, Same}
use Rattle.event_model.specs.Writes.{Values}
use Rattle.net_model.specs.Control.{IsReached}
use Rattle.net_model.specs.Numbers.{bit}
use Rattle.net_model.specs.Solution.{IsLasting}
use Rattle.event_runs.specs.Effects.{laters}
use Rattle.event_runs.specs.Plain.{ran_after, ran_by}
use Rattle.event_runs.specs.Writers.{IsOrderly}
use Rattle.event_edges.specs.Moves.{CanMove, IsBeside, Move, move_all}
use Rattle.event_edges.specs.Quiet.{IsQuiet, IsQuietRun, SetData}
use Rattle.event_edges.specs.Registers.{due_bit, updates_bit}
use Rattle.event_edges.specs.Reset.{IsReset, IsSet}
use Rattle.event_edges.specs.Turned.{IsEdgeStart, IsTurn, IsTurnedAt, IsTurning, fires, found_at, set_to}

-- ---- the turn

-- what a step of one clock or reset begins with
pub record IsBegun (d : Flat) (c : ℕ) (a b : Bit) (s : State) : Type 0 where
  pub turn : IsTurn d c a b s.value
  pub turning : IsTurning d c a b s.value (λ p. false) (set_to s c b)

abbrev pub StepsBegin : Flat → Type 0
StepsBegin d = (c : ℕ) (a b : Bit) (s : State) → IsEdgeStart d c a b s → IsBegun d c a b s

-- each event but the activation keeps the turn
abbrev pub KeepsTurning : Flat → Type 0
KeepsTurning d =
    (c : ℕ) (a b : Bit) (old : Values) → IsTurn d c a b old →
    (ran : ℕ → Bool) (s : State) (event : Event) → IsThere d s event → event ≢ Activate →
    IsTurning d c a b old ran s → IsTurning d c a b old (ran_by ran event) (after d s event)

-- so does each run without one
abbrev pub RunsKeepTurning : Flat → Type 0
RunsKeepTurning d =
    (c : ℕ) (a b : Bit) (old : Values) → IsTurn d c a b old →
    (ran : ℕ → Bool) (s : State) (events : List Event) → CanRun d s events → All (λ event. event ≢ Activate) events →
    IsTurning d c a b old ran s → IsTurning d c a b old (ran_after ran events) (run d s events)

-- once no event is active all that is reached has turned
abbrev pub AllTurn : Flat → Type 0
AllTurn d =
    (c : ℕ) (a b : Bit) (s : State) → IsEdgeStart d c a b s →
    (events : List Event) → CanRun d (set_to s c b) events → All (λ event. event ≢ Activate) events →
    HasNoActive d (run d (set_to s c b) events) →
    (i : ℕ) → IsReached d c i → (run d (set_to s c b) events).value i ≡ b ∷ []

-- ---- quiet states

-- the activation leads to a quiet state
abbrev pub ActivationIsQuiet : Flat → Type 0
ActivationIsQuiet d = (s : State) → HasNoActive d s → IsQuiet d (after d s Activate)

-- so does a step of data from a state at rest
abbrev pub DataIsQuiet : Flat → Type 0
DataIsQuiet d =
    (s : State) (step : List (ℕ × List Bit)) → IsAtRest d s → SetData d step → IsQuiet d (offer s step)

-- runs from a quiet state stay quiet: no clock and no reset changes, and no body that waits for edges is woken
abbrev pub RunsAreQuiet : Flat → Type 0
RunsAreQuiet d =
    (s : State) (events : List Event) → CanRun d s events → IsOrderly d s → IsQuiet d s → IsQuietRun d s (run d s events)

-- so do moves, data that are given among them
abbrev pub MovesAreQuiet : Flat → Type 0
MovesAreQuiet d =
    (s : State) (moves : List Move) → CanMove d s moves → IsOrderly d s → IsQuiet d s → IsQuietRun d s (move_all d s moves)

-- and what is due to a register stays
abbrev pub MovesKeepDue : Flat → Type 0
MovesKeepDue d =
    (s : State) (moves : List Move) → CanMove d s moves → IsOrderly d s → IsQuiet d s →
    (p : ℕ) (list : List Watched) (body : Actions) → doing_at d p ≡ Some (Edge' list body) →
    (i k : ℕ) → MayWrite (body_flow (widths d) body) i k → due_bit (move_all d s moves) i k ≡ due_bit s i k

-- at rest after a step of one clock or reset what is reached from it has turned, and no other clock or reset has changed
abbrev pub TurnsCone : Flat → Type 0
TurnsCone d =
    (c : ℕ) (a b : Bit) (s : State) → IsEdgeStart d c a b s →
    (events : List Event) → CanRun d (set_to s c b) events →
    (t : State) → run d (set_to s c b) events ≡ t → IsAtRest d t → IsTurnedAt d c b s t

-- the same with data beside it
abbrev pub TurnsConeBeside : Flat → Type 0
TurnsConeBeside d =
    (c : ℕ) (a b : Bit) (s : State) → IsEdgeStart d c a b s →
    (t : State) → IsBeside d (set_to s c b) t → IsAtRest d t → IsTurnedAt d c b s t

-- ---- registers

-- between a state and one behind it a register has taken what its body asked for, if an event of the body came: it found
-- clocks and resets among its events as they are then, and all else as it was before
abbrev pub HaveTaken : Flat → State → State → Type 0
HaveTaken d s t =
    (p : ℕ) (list : List Watched) (body : Actions) → doing_at d p ≡ Some (Edge' list body) →
    FollowsPath (widths d) (found_at (widths d) list s.value t.value) body →
    (i k : ℕ) → MayWrite (body_flow (widths d) body) i k → IsLasting d i →
    let found = found_at (widths d) list s.value t.value in
    let asked = updates_bit i k (laters (body_made (widths d) found body)) (bit s.value i k) in
    bit t.value i k ≡ (if fires s.value t.value list then asked else bit s.value i k)

-- at rest after a step of one clock or reset registers have
abbrev pub TakesEdges : Flat → Type 0
TakesEdges d =
    (c : ℕ) (a b : Bit) (s : State) → IsEdgeStart d c a b s →
    (events : List Event) → CanRun d (set_to s c b) events →
    (t : State) → run d (set_to s c b) events ≡ t → IsAtRest d t → HaveTaken d s t

-- with data beside it they have taken the same, from the values before the step
abbrev pub TakesBeside : Flat → Type 0
TakesBeside d =
    (c : ℕ) (a b : Bit) (s : State) → IsEdgeStart d c a b s →
    (t : State) → IsBeside d (set_to s c b) t → IsAtRest d t → HaveTaken d s t

-- at rest after a quiet run a register has what it had, where no update was to be made
abbrev pub KeepsRegisters : Flat → Type 0
KeepsRegisters d =
    (s : State) (events : List Event) → CanRun d s events → IsOrderly d s → IsQuiet d s →
    s.activated ≡ [] → s.delayed ≡ [] → IsAtRest d (run d s events) →
    (p : ℕ) (list : List Watched) (body : Actions) → doing_at d p ≡ Some (Edge' list body) →
    (i k : ℕ) → MayWrite (body_flow (widths d) body) i k → Same (run d s events).value s.value i k

-- ---- resets

-- what a reset sets stays set in every run, and is set from power-up on
pub record StaysSet (d : Flat) (p r : ℕ) (active : Bit) (i k : ℕ) (constant : Bit) : Type 0 where
  pub power_up : IsSet d p r active i k constant (power_up d)
  pub offer :
      (s : State) (step : List (ℕ × List Bit)) → IsSet d p r active i k constant s →
      IsSet d p r active i k constant (offer s step)
  pub run :
      (s : State) (events : List Event) → CanRun d s events → IsOrderly d s → IsSet d p r active i k constant s →
      IsSet d p r active i k constant (run d s events)

abbrev pub ResetsSet : Flat → Type 0
ResetsSet d =
    (p r : ℕ) (active : Bit) (i k : ℕ) (constant : Bit) →
    IsReset d p r active i k constant → StaysSet d p r active i k constant

-- at rest a register whose reset is active has its constant
abbrev pub SetAtRest : Flat → Type 0
SetAtRest d =
    (p r : ℕ) (active : Bit) (i k : ℕ) (constant : Bit) → IsReset d p r active i k constant →
    (s : State) → IsAtRest d s → IsSet d p r active i k constant s →
    bit s.value r 0 ≡ active → bit s.value i k ≡ constant
