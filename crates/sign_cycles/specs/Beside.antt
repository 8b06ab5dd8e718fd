-- Steps as a test bench takes them: besides those of one control input and those of data alone, such as turn a clock or a reset
-- and give data by nonblocking assignments (IEEE 1364-2001 sections 5.3 and 5.4). The state shows the numbers that follow by
-- the turn, and then by the data: registers take what inputs were before.
-- Worked examples: proofs/BesideExample.antt.
use Rattle.std.specs.Prelude.{◌≡◌, ℕ, List, [], ◌∷◌, map, ⊤}
use Rattle.std.specs.List.{All}
use Rattle.rtl_bits.specs.declared.Bit.{Bit}
use Rattle.event_model.specs.Queue.{State, IsAtRest}
use Rattle.rtl_flat.specs.Flats.{Flat}
use Rattle.event_model.specs.Writes.{Values}
use Rattle.net_model.specs.declared.fill.Fill.{Fill}
use Rattle.net_model.specs.Control.{IsClockOrReset}
use Rattle.net_model.specs.Cycle.{Chain, Data, IsCycle, Setting, Step, Turn, settings}
use Rattle.net_model.specs.Lawful.{AreLawfulSteps, SetsData, TurnsControl}
use Rattle.event_edges.specs.Moves.{IsBeside, gifts}
use Rattle.sign_cycles.specs.Agree.{AllShow, AreCycles, AreSameLists, IsNext, IsSettledKnown, after_offer}
use Rattle.sign_cycles.specs.Formed.{IsCleanClocked}
use Rattle.sign_cycles.specs.Laws.{IsFollowed}

-- ---- steps

-- a step of a bench: one of a clock, of a reset, of a gate or of data alone, or a turn of a clock or a reset with data given
-- beside it
pub data BenchStep : Type 0 where
  Plain : (step : Step) → BenchStep
  Beside : (turn : Setting) (given : List Setting) → BenchStep

-- the same as turns and data one after another
abbrev pub in_turn : List BenchStep → List Step
in_turn [] = []
in_turn (Plain step ∷ steps) = step ∷ in_turn steps
in_turn (Beside turn given ∷ steps) = Turn turn ∷ Data given ∷ in_turn steps

-- what turns beside data is a clock or a reset
abbrev pub TurnsClock : Flat → BenchStep → Type 0
TurnsClock d (Plain step) = ⊤
TurnsClock d (Beside turn given) = IsClockOrReset d turn.input

-- ---- runs

-- settings as values that are offered
abbrev pub offers : List Setting → List (ℕ × List Bit)
offers all = map (λ setting. (setting.input, setting.number)) all

-- a state to which some way comes to rest on which one input turns, and just these data are given beside it
pub record IsNextBeside (d : Flat) (s : State) (turn : Setting) (given : List Setting) (t : State) : Type 0 where
  pub way : IsBeside d (after_offer s (turn ∷ [])) t
  pub gives : gifts way.late ≡ offers given
  pub rest : IsAtRest d t

abbrev pub IsBenchNext : Flat → State → BenchStep → State → Type 0
IsBenchNext d s (Plain step) t = IsNext d s (settings step) t
IsBenchNext d s (Beside turn given) t = IsNextBeside d s turn given t

-- states each of which follows from the one before it
abbrev pub AreBenchRuns : Flat → State → List BenchStep → List State → Type 0
AreBenchRuns d s [] [] = Unit {0}
AreBenchRuns d s [] (t ∷ states) = ⊥
AreBenchRuns d s (step ∷ steps) [] = ⊥
AreBenchRuns d s (step ∷ steps) (t ∷ states) = IsBenchNext d s step t × AreBenchRuns d t steps states

-- ---- agreement

-- of the numbers after turns and data one after another, those after each step of a bench
abbrev pub at_ends : List BenchStep → List Values → List Values
at_ends [] numbers = []
at_ends (Plain step ∷ steps) [] = []
at_ends (Plain step ∷ steps) (next ∷ numbers) = next ∷ at_ends steps numbers
at_ends (Beside turn given ∷ steps) [] = []
at_ends (Beside turn given ∷ steps) (turned ∷ []) = []
at_ends (Beside turn given ∷ steps) (turned ∷ next ∷ numbers) = next ∷ at_ends steps numbers

-- how states follow numbers: turns and data one after another give one list of them, and the states show those after each
-- step
pub record AreBenchFollowed (d : Flat) (chains : ℕ → Chain) (f : Fill) (n : Values) (steps : List BenchStep) (states : List State) : Type 0 where
  pub numbers : List Values
  pub follow : AreCycles d chains f n (in_turn steps) numbers
  -- no others follow
  pub alone : (others : List Values) → AreCycles d chains f n (in_turn steps) others → AreSameLists d numbers others
  pub show : AllShow d states (at_ends steps numbers)

-- simulation under a bench agrees with synthesis, over all lists of its steps that are lawful one after another, and over all
-- states to which they lead, whichever events are taken and wherever data are given
pub record BenchesAgree (d : Flat) (chains : ℕ → Chain) (f : Fill) : Type 0 where
  pub agrees :
      (s : State) (n : Values) → IsSettledKnown d chains f s n →
      (steps : List BenchStep) → AreLawfulSteps d n (in_turn steps) → All (TurnsClock d) steps →
      (states : List State) → AreBenchRuns d s steps states →
      AreBenchFollowed d chains f n steps states

-- ---- one step

-- numbers follow by each turn of a clock or a reset from a settled state
abbrev pub TurnsLead : Flat → (ℕ → Chain) → Fill → Type 0
TurnsLead d chains f =
    (s : State) (n : Values) → IsSettledKnown d chains f s n →
    (turn : Setting) → IsClockOrReset d turn.input → TurnsControl d n turn → (m : Values) × IsCycle d chains f n (Turn turn) m

-- a turn with data beside it leads to states that follow by the data from the numbers after the turn
abbrev pub BesideFollows : Flat → (ℕ → Chain) → Fill → Type 0
BesideFollows d chains f =
    (s : State) (n : Values) → IsSettledKnown d chains f s n →
    (turn : Setting) → IsClockOrReset d turn.input → TurnsControl d n turn → (given : List Setting) → All (SetsData d) given →
    (t : State) → IsNextBeside d s turn given t →
    (m : Values) → IsCycle d chains f n (Turn turn) m → IsFollowed d chains f m (Data given) t

-- so benches agree in a clean design, where numbers follow by each turn
abbrev pub BenchesAgreeClean : Flat → (ℕ → Chain) → (ℕ → ℕ) → Type 0
BenchesAgreeClean d chains level =
    IsCleanClocked d chains level → (f : Fill) → TurnsLead d chains f → BenchesAgree d chains f
