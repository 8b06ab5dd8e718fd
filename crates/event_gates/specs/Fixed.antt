-- An input that isn't set keeps what is reached from it, at whatever moments others are set, and closed latches of it hold.
-- It serves inner contracts and proofs; no answer of the program is stated by it.
use Rattle.std.specs.Prelude.{◌≡◌, ◌≢◌, ℕ, false, true, List, [], ◌∷◌, Option, None, Some, IsTrue, ⊤}
use Rattle.std.specs.List.{All}
use Rattle.rtl_bits.specs.declared.Bit.{Bit}
use Rattle.rtl_flat.specs.Expression.{Tree}
use Rattle.rtl_flat.specs.Flows.{body_flow, may_target}
use Rattle.rtl_flat.specs.Paths.{MayWrite, MayWriteLate}
use Rattle.rtl_flat.specs.Process.{Piece, Watched, Actions, Assign, Comb}
use Rattle.event_model.specs.Queue.{State, Event, CanRun, IsAtRest, IsThere, doing_at, is_input, offer, run}
use Rattle.rtl_flat.specs.Flats.{Flat, widths}
use Rattle.event_model.specs.Traces.{Same}
use Rattle.event_model.specs.Writes.{Values}
use Rattle.net_model.specs.Control.{IsReached}
use Rattle.event_edges.specs.event_runs.Nets.{AreWide}
use Rattle.event_edges.specs.event_runs.Writers.{IsOrderly, IsSole}
use Rattle.event_edges.specs.Moves.{Give, IsBeside, Move, Take, gifts, move_all, moved}
use Rattle.event_gates.specs.Gates.{AreFed, MakesNothing}

-- a target with a bit of what is reached from an input
pub record IsReachedTarget (d : Flat) (c : ℕ) (target : List Piece) : Type 0 where
  pub signal : ℕ
  pub bit : ℕ
  pub reached : IsReached d c signal
  pub may : may_target (widths d) target signal bit ≡ true

-- the input isn't offered, and nothing of it is on its way through ports
pub record IsFixed (d : Flat) (c : ℕ) (s : State) : Type 0 where
  pub offered : (i : ℕ) → IsTrue (is_input d i) → IsReached d c i → s.offered i ≡ None
  pub ports :
      (p : ℕ) (target : List Piece) (e : Tree) → doing_at d p ≡ Some (Assign target e) → IsReachedTarget d c target →
      s.woken p ≡ false
  pub pending :
      (p : ℕ) (target : List Piece) (e : Tree) → doing_at d p ≡ Some (Assign target e) → IsReachedTarget d c target →
      s.pending p ≡ None

-- a bit that a body alone may write, and at once, where the body makes nothing while a signal that is reached from the input
-- has what it has
pub record IsShutBit (d : Flat) (c : ℕ) (v : Values) (i k : ℕ) : Type 0 where
  pub process : ℕ
  pub list : Option (List Watched)
  pub body : Actions
  pub does : doing_at d process ≡ Some (Comb list body)
  pub gate : ℕ
  pub reached : IsReached d c gate
  pub level : Bit
  pub closed : v gate ≡ level ∷ []
  pub shuts : MakesNothing d gate level body
  pub may : MayWrite (body_flow (widths d) body) i k
  pub sole : IsSole d process i k
  pub no_late : MayWriteLate (body_flow (widths d) body) i k → ⊥

-- what moves keep then, from one state to another
pub record IsFixedRun (d : Flat) (c : ℕ) (s t : State) : Type 0 where
  pub order : IsOrderly d t
  pub fixed : IsFixed d c t
  pub cone : (i k : ℕ) → IsReached d c i → Same t.value s.value i k
  pub latches : (i k : ℕ) → IsShutBit d c s.value i k → Same t.value s.value i k

-- ---- moves that don't set the input

-- inputs are given values of their widths, and the input isn't among them
abbrev pub SetsOthers : Flat → ℕ → List (ℕ × List Bit) → Type 0
SetsOthers d c step = AreWide d step × All (λ (one : ℕ × List Bit). one.0 ≢ c) step

abbrev pub IsMoveApart : Flat → ℕ → State → Move → Type 0
IsMoveApart d c s (Take event) = IsThere d s event
IsMoveApart d c s (Give step) = SetsOthers d c step

abbrev pub CanMoveApart : Flat → ℕ → State → List Move → Type 0
CanMoveApart d c s [] = ⊤
CanMoveApart d c s (move ∷ moves) = IsMoveApart d c s move × CanMoveApart d c (moved d s move) moves

-- ---- laws

-- in a state at rest the input is fixed, and stays so where others are set
abbrev pub RestIsFixed : Flat → Type 0
RestIsFixed d =
    (c : ℕ) (s : State) → IsAtRest d s → (step : List (ℕ × List Bit)) → SetsOthers d c step → IsFixed d c (offer s step)

abbrev pub RunsFix : Flat → Type 0
RunsFix d =
    (c : ℕ) → AreFed d c → (s : State) → IsOrderly d s → IsFixed d c s →
    (events : List Event) → CanRun d s events → IsFixedRun d c s (run d s events)

-- where others are set meanwhile too
abbrev pub MovesFix : Flat → Type 0
MovesFix d =
    (c : ℕ) → AreFed d c → (s : State) → IsOrderly d s → IsFixed d c s →
    (moves : List Move) → CanMoveApart d c s moves → IsFixedRun d c s (move_all d s moves)

-- and beside a turn of a clock or a reset
abbrev pub BesideFixes : Flat → Type 0
BesideFixes d =
    (c : ℕ) → AreFed d c → (s : State) → IsOrderly d s → IsFixed d c s →
    (t : State) (way : IsBeside d s t) → All (λ (one : ℕ × List Bit). one.0 ≢ c) (gifts way.late) → IsFixedRun d c s t
