-- A design without a finding of the first grade under a test bench: what the bench does agrees, and it ends.
-- Worked examples: proofs/BenchesExample.antt.
use Rattle.std.specs.Prelude.{◌≢◌, ℕ, suc, ◌+◌, ◌*◌, ◌≤◌, List, [], ◌∷◌, length}
use Rattle.std.specs.List.{All}
use Rattle.rtl_bits.specs.declared.Bit.{Bit}
use Rattle.event_model.specs.Queue.{State, Event, Activate, CanRun, HasNoActive, offer, run}
use Rattle.rtl_flat.specs.Flats.{Flat, Parts}
use Rattle.event_model.specs.Writes.{Values}
use Rattle.check_laws.specs.event_laws.Steady.{AreLawful}
use Rattle.check_laws.specs.event_settling.Ending.{ComesToRest, IsReached, bound, later_wave}
use Rattle.check_laws.specs.event_settling.Settling.{Fits}
use Rattle.net_model.specs.declared.fill.Fill.{Fill}
use Rattle.net_model.specs.Cycle.{AreChains, Chain}
use Rattle.net_model.specs.Lawful.{AreLawfulSteps}
use Rattle.sign_cycles.specs.event_edges.Moves.{Give, IsBeside, Move, Take, gifts}
use Rattle.sign_cycles.specs.Agree.{IsSettledKnown}
use Rattle.sign_cycles.specs.Beside.{AreBenchFollowed, AreBenchRuns, BenchStep, BenchesAgree, TurnsClock, in_turn}
use Rattle.sign_cycles.specs.Unfired.{UnfiredAgree}
use Rattle.rtl_rule.specs.declared.finding.Finding.{Finding}
use Rattle.check_all.specs.Findings.{AreAllFindings, IsClean}
use Rattle.check_laws.specs.Expressions.{AreMarked}

-- ---- it ends

-- how many of some moves are events
abbrev pub events_among : List Move → ℕ
events_among [] = 0
events_among (Take event ∷ moves) = suc (events_among moves)
events_among (Give step ∷ moves) = events_among moves

-- some events lead to where no active event is left, without making nonblocking updates active
pub record ComesToActivation (d : Flat) (s : State) : Type 0 where
  pub events : List Event
  pub can : CanRun d s events
  pub before : All (λ event. event ≢ Activate) events
  pub still : HasNoActive d (run d s events)

-- how a step ends beside which data are given
pub record EndsBeside (d : Flat) (s : State) : Type 0 where
  -- it comes to where nonblocking updates become active, whichever events were taken before
  pub activates :
      (events : List Event) → CanRun d s events → All (λ event. event ≢ Activate) events →
      ComesToActivation d (run d s events)
  -- on each way with data there are no more events than the bound of a step, and a wave more for each value
  pub bounded :
      (t : State) (way : IsBeside d s t) →
      length way.early + events_among way.late ≤ bound d + length (gifts way.late) * later_wave d
  -- and from wherever it has led some further events lead to rest
  pub further : (t : State) → IsBeside d s t → ComesToRest d t

-- so it does from wherever a step starts
abbrev pub BesideEnds : Flat → Type 0
BesideEnds d =
    (s : State) (step : List (ℕ × List Bit)) → IsReached d s → Fits d step → EndsBeside d (offer s step)

-- ---- it is there

-- states to which steps of a bench lead, that show the numbers which follow
pub record IsShownBeside (d : Flat) (chains : ℕ → Chain) (f : Fill) (s : State) (n : Values) (steps : List BenchStep) : Type 0 where
  pub states : List State
  pub runs : AreBenchRuns d s steps states
  pub followed : AreBenchFollowed d chains f n steps states

-- ---- what is promised

-- over steps each of which turns one clock, one reset or one gate, gives data, or turns a clock or a reset and gives data beside
-- it by nonblocking assignments, from every settled state: every state to which they lead shows the numbers that follow by the
-- turns and the data one after another, whichever events are taken; there are such states; and each step ends. So it is where
-- no clock fires, and inputs that are no gates are set at any moments of one run, clocks and resets among them
pub record ServesBenches (d : Flat) : Type 0 where
  pub agree : (choice : ℕ → Chain) → AreChains d choice → (fill : Fill) → BenchesAgree d choice fill
  pub shown :
      (choice : ℕ → Chain) → AreChains d choice → (fill : Fill) →
      (s : State) (n : Values) → IsSettledKnown d choice fill s n →
      (steps : List BenchStep) → AreLawfulSteps d n (in_turn steps) → All (TurnsClock d) steps →
      IsShownBeside d choice fill s n steps
  pub ends : BesideEnds d
  pub unfired : (choice : ℕ → Chain) → AreChains d choice → (fill : Fill) → UnfiredAgree d choice fill

-- so it is where none of all findings of a lawful design is of the first grade
abbrev pub BenchesByRules : Parts → Type 0
BenchesByRules d =
    AreLawful d.flat → AreMarked d.flat →
    (findings : List Finding) → AreAllFindings d findings → IsClean findings → ServesBenches d.flat
