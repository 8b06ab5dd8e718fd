-- Where any inputs are given values at any moments, and each clock and each reset goes to one level (IEEE 1364-2001 section 9.7.2).
-- It serves inner contracts and proofs; no answer of the program is stated by it.
use Rattle.std.specs.Prelude.{◌≡◌, ℕ, false, List, [], ◌∷◌, length, Some, ⊤}
use Rattle.rtl_bits.specs.declared.Bit.{Bit}
use Rattle.rtl_flat.specs.Flows.{body_flow}
use Rattle.rtl_flat.specs.Paths.{MayWrite}
use Rattle.rtl_flat.specs.Process.{Watched, Actions, Edge'}
use Rattle.event_model.specs.Queue.{State, IsAtRest, IsThere, doing_at, happens}
use Rattle.rtl_flat.specs.Flats.{Flat, widths}
use Rattle.net_model.specs.Control.{IsClockOrReset, IsReached}
use Rattle.event_runs.specs.Nets.{AreResolved}
use Rattle.event_runs.specs.Writers.{IsOrderly}
use Rattle.event_edges.specs.Moves.{Give, Move, Take, move_all, moved}
use Rattle.event_edges.specs.Registers.{due_bit}
use Rattle.event_edges.specs.Synchronous.{IsItem}

-- values of their widths for inputs, where a clock or a reset is given the bit to which it is to go
abbrev pub GivesLevels : Flat → (ℕ → Bit) → List (ℕ × List Bit) → Type 0
GivesLevels d to [] = ⊤
GivesLevels d to ((i, bits) ∷ others) =
    (length bits ≡ widths d i) × (IsClockOrReset d i → bits ≡ to i ∷ []) × GivesLevels d to others

-- an event that is there, or such a gift
abbrev pub IsLevelMove : Flat → (ℕ → Bit) → State → Move → Type 0
IsLevelMove d to s (Take event) = IsThere d s event
IsLevelMove d to s (Give step) = GivesLevels d to step

abbrev pub CanMoveTo : Flat → (ℕ → Bit) → State → List Move → Type 0
CanMoveTo d to s [] = ⊤
CanMoveTo d to s (move ∷ moves) = IsLevelMove d to s move × CanMoveTo d to (moved d s move) moves

-- a state at rest in which each clock and each reset has one bit
pub record IsLevelStart (d : Flat) (was : ℕ → Bit) (s : State) : Type 0 where
  pub rest : IsAtRest d s
  pub order : IsOrderly d s
  pub resolved : AreResolved d s
  pub before : (c : ℕ) → IsClockOrReset d c → s.value c ≡ was c ∷ []

-- no event of a body is one by which an input goes from its bit to that to which it is to go
abbrev pub IsUnfired : Flat → (ℕ → Bit) → (ℕ → Bit) → ℕ → List Watched → Actions → Type 0
IsUnfired d was to p list body =
    (item : Watched) → IsItem d p list body item → (c : ℕ) → IsClockOrReset d c → IsReached d c item.signal →
    happens item.edge (was c) (to c) ≡ false

-- what is due to its registers then stays
abbrev pub UnfiredKeepDue : Flat → Type 0
UnfiredKeepDue d =
    (was to : ℕ → Bit) (s : State) → IsLevelStart d was s → (moves : List Move) → CanMoveTo d to s moves →
    (p : ℕ) (list : List Watched) (body : Actions) → doing_at d p ≡ Some (Edge' list body) → IsUnfired d was to p list body →
    (i k : ℕ) → MayWrite (body_flow (widths d) body) i k → due_bit (move_all d s moves) i k ≡ due_bit s i k
