-- Where no clock and no reset changes: a data step, and a step of a clock once its nonblocking updates are active.
use Rattle.std.specs.Prelude.{◌≡◌, ℕ, true, false, List, [], ◌∷◌, length, None, Some, IsSome, IsTrue}
use Rattle.rtl_bits.specs.declared.Bit.{Bit}
use Rattle.rtl_flat.specs.Expression.{Tree}
use Rattle.rtl_flat.specs.Flows.{may_target}
use Rattle.rtl_flat.specs.Process.{Piece, Watched, Actions, Assign, Edge'}
use Rattle.event_model.specs.Queue.{State, doing_at, is_input}
use Rattle.rtl_flat.specs.Flats.{Flat, widths}
use Rattle.event_model.specs.Traces.{Same}
use Rattle.net_model.specs.Control.{InClockCone, IsUnclocked}
use Rattle.event_runs.specs.Writers.{IsOrderly, are_over}

-- a target with a bit of the clock cone
pub record IsInCone (d : Flat) (target : List Piece) : Type 0 where
  pub signal : ℕ
  pub bit : ℕ
  pub in_cone : InClockCone d signal
  pub may : may_target (widths d) target signal bit ≡ true

-- no clock or reset is offered or is on its way through ports, no body that waits for edges is woken, and no nonblocking
-- update of some bit is still to become active
pub record IsQuiet (d : Flat) (s : State) : Type 0 where
  pub offered : (i : ℕ) → IsTrue (is_input d i) → IsSome (s.offered i) → InClockCone d i → ⊥
  pub blocks :
      (p : ℕ) (events : List Watched) (body : Actions) → doing_at d p ≡ Some (Edge' events body) → s.woken p ≡ false
  pub ports :
      (p : ℕ) (target : List Piece) (e : Tree) → doing_at d p ≡ Some (Assign target e) → IsInCone d target →
      s.woken p ≡ false
  pub pending :
      (p : ℕ) (target : List Piece) (e : Tree) → doing_at d p ≡ Some (Assign target e) → IsInCone d target →
      s.pending p ≡ None
  pub delayed : (i k : ℕ) → are_over i k s.delayed ≡ true → ⊥

-- what quiet runs keep, from one state to another
pub record IsQuietRun (d : Flat) (s t : State) : Type 0 where
  pub order : IsOrderly d t
  pub quiet : IsQuiet d t
  pub cone : (i k : ℕ) → InClockCone d i → Same t.value s.value i k

-- data inputs with values of their widths
abbrev pub SetData : Flat → List (ℕ × List Bit) → Type 0
SetData d [] = Unit {0}
SetData d ((i, bits) ∷ others) = IsUnclocked d i × (length bits ≡ widths d i) × SetData d others
