-- What every run of the event queue keeps.
use Rattle.std.specs.Prelude.{◌≡◌, ℕ, Bool, true, false, List, [], Some, IsTrue}
use Rattle.rtl_bits.specs.declared.Bit.{Bit}
use Rattle.rtl_flat.specs.Expression.{Tree}
use Rattle.rtl_flat.specs.Flows.{may_target}
use Rattle.rtl_flat.specs.Process.{Piece, Assign}
use Rattle.rtl_flat.specs.Value.{value}
use Rattle.event_model.specs.Queue.{State, Event, CanRun, IsAtRest, IsThere, after, doing_at, is_input, offer, resolved, run}
use Rattle.rtl_flat.specs.Flats.{Flat, widths}
use Rattle.event_model.specs.Traces.{Same}
use Rattle.event_model.specs.Writes.{Values, driven}
use Rattle.event_runs.specs.Effects.{IsEffect, event_writes, takes}
use Rattle.event_runs.specs.Nets.{AreDriven, AreOffered, AreResolved, AreWide, given_with, offered_after}
use Rattle.event_runs.specs.Plain.{ran_after, ran_by}
use Rattle.event_runs.specs.Writers.{AreLate, CanWrite, IsOrderly, IsSole}

-- ---- events

-- an event that is there has its effect
abbrev pub HaveEffects : Flat → Type 0
HaveEffects d =
    (s : State) (event : Event) →
    IsThere d s event → IsEffect d s event (event_writes d s event) (after d s event)

-- it leaves each bit that it can't write
abbrev pub LeavesBits : Flat → Type 0
LeavesBits d =
    (s : State) (event : Event) (i k : ℕ) →
    IsThere d s event → IsOrderly d s → (CanWrite d event i k → ⊥) → Same (after d s event).value s.value i k

-- it leaves each input but the one that takes its value
abbrev pub LeavesInputs : Flat → Type 0
LeavesInputs d =
    (s : State) (event : Event) (i : ℕ) →
    IsThere d s event → IsOrderly d s → IsTrue (is_input d i) → takes event i ≡ false → (after d s event).value i ≡ s.value i

-- ---- orderly states

-- each event keeps a state orderly
abbrev pub KeepsOrder : Flat → Type 0
KeepsOrder d =
    (s : State) (event : Event) → IsThere d s event → IsOrderly d s → IsOrderly d (after d s event)

-- each run does
abbrev pub RunsKeepOrder : Flat → Type 0
RunsKeepOrder d =
    (s : State) (events : List Event) → CanRun d s events → IsOrderly d s → IsOrderly d (run d s events)

-- values that are offered do
abbrev pub OffersKeepOrder : Flat → Type 0
OffersKeepOrder d =
    (s : State) (step : List (ℕ × List Bit)) → AreWide d step → IsOrderly d s → IsOrderly d (offer s step)

-- where no update is to be made, all are late
abbrev pub NoneAreLate : Flat → Type 0
NoneAreLate d = (s : State) → s.activated ≡ [] → s.delayed ≡ [] → AreLate d s

-- ---- conditions on states

-- one that each event keeps in orderly states
abbrev pub IsKept : Flat → (State → Type 0) → Type 0
IsKept d P =
    (s : State) (event : Event) → IsThere d s event → IsOrderly d s → P s → P (after d s event)

-- one that each run keeps from an orderly state on
abbrev pub IsKeptByRuns : Flat → (State → Type 0) → Type 0
IsKeptByRuns d P =
    (s : State) (events : List Event) → CanRun d s events → IsOrderly d s → P s → P (run d s events)

-- one on which processes have run besides, that each event keeps
abbrev pub IsKeptRunning : Flat → ((ℕ → Bool) → State → Type 0) → Type 0
IsKeptRunning d P =
    (ran : ℕ → Bool) (s : State) (event : Event) →
    IsThere d s event → IsOrderly d s → P ran s → P (ran_by ran event) (after d s event)

-- one that each run keeps
abbrev pub IsKeptByRunning : Flat → ((ℕ → Bool) → State → Type 0) → Type 0
IsKeptByRunning d P =
    (ran : ℕ → Bool) (s : State) (events : List Event) →
    CanRun d s events → IsOrderly d s → P ran s → P (ran_after ran events) (run d s events)

-- ---- drivers

-- on a bit that one process alone may write, all drivers together give what its driver gives
abbrev pub SoleDriverGives : Flat → Type 0
SoleDriverGives d =
    (driver : ℕ → List Bit) (p : ℕ) (target : List Piece) (e : Tree) →
    doing_at d p ≡ Some (Assign target e) →
    (i k : ℕ) → may_target (widths d) target i k ≡ true → IsSole d p i k →
    Same (resolved d driver) (driven (widths d) target (driver p)) i k

-- where each driven bit is one process's alone
abbrev pub HaveSoleDrivers : Flat → Type 0
HaveSoleDrivers d =
    (p : ℕ) (target : List Piece) (e : Tree) →
    doing_at d p ≡ Some (Assign target e) →
    (i k : ℕ) → may_target (widths d) target i k ≡ true → IsSole d p i k

-- driven bits that show what drivers give together show what each gives alone, and the other way round
pub record DrivenAreResolved (d : Flat) : Type 0 where
  pub alone : (s : State) → AreResolved d s → AreDriven d s
  pub together : (s : State) → HaveSoleDrivers d → AreDriven d s → AreResolved d s

-- at rest a driver has the value of its expression
abbrev pub DriversRest : Flat → Type 0
DriversRest d =
    (s : State) (p : ℕ) (target : List Piece) (e : Tree) →
    IsOrderly d s → IsAtRest d s → doing_at d p ≡ Some (Assign target e) → s.driver p ≡ value s.value e

-- ---- offers

-- values that are offered change nothing else
abbrev pub OffersLeave : Flat → Type 0
OffersLeave d =
    (s : State) (step : List (ℕ × List Bit)) →
    offer s step ≡ record s { offered = offered_after s.offered step }

-- and are what inputs are given then
abbrev pub OffersGive : Flat → Type 0
OffersGive d =
    (given : Values) (s : State) (step : List (ℕ × List Bit)) →
    AreWide d step → AreOffered d given s → AreOffered d (given_with given step) (offer s step)
