-- A step that closes a gate: nothing changes but what is reached from its input.
-- It serves inner contracts and proofs; no answer of the program is stated by it.
use Rattle.std.specs.Prelude.{◌≡◌, ℕ, false, true, List, [], ◌∷◌, Option, Some, IsTrue}
use Rattle.rtl_bits.specs.declared.Bit.{Bit}
use Rattle.rtl_flat.specs.Expression.{Tree}
use Rattle.rtl_flat.specs.Process.{Piece, Watched, Actions, Assign, Comb, Edge'}
use Rattle.event_model.specs.Queue.{State, Event, CanRun, IsAtRest, doing_at, is_input, run}
use Rattle.rtl_flat.specs.Flats.{Flat}
use Rattle.event_model.specs.Traces.{Same}
use Rattle.event_model.specs.Writes.{Values}
use Rattle.event_edges.specs.event_laws.Steady.{HaveWidths}
use Rattle.net_model.specs.Control.{IsReached}
use Rattle.event_edges.specs.Turned.{IsReachedPort, IsTurnedPort, set_to}
use Rattle.event_gates.specs.Gates.{IsShutter, MakesNothing}

-- a body that makes nothing now, since its gate has closed
pub record IsShut (d : Flat) (c : ℕ) (b : Bit) (v : Values) (body : Actions) : Type 0 where
  pub gate : ℕ
  pub reached : IsReached d c gate
  pub closed : v gate ≡ b ∷ []
  pub shuts : MakesNothing d gate b body

-- a state on the way: signals that are reached from the input come to its bit one by one, and each body that hears this
-- makes nothing
pub record IsClosing (d : Flat) (c : ℕ) (b : Bit) (old : Values) (s : State) : Type 0 where
  pub wide : HaveWidths d s.value
  pub offered :
      (i : ℕ) (bits : List Bit) → IsTrue (is_input d i) → s.offered i ≡ Some bits → (i ≡ c) × (bits ≡ b ∷ [])
  pub ports :
      (p : ℕ) (target : List Piece) (e : Tree) → doing_at d p ≡ Some (Assign target e) →
      s.woken p ≡ true → IsTurnedPort d c b s.value target e
  pub pending :
      (p : ℕ) (target : List Piece) (e : Tree) → doing_at d p ≡ Some (Assign target e) →
      (bits : List Bit) → s.pending p ≡ Some bits → IsReachedPort d c target e × (bits ≡ b ∷ [])
  pub shut :
      (p : ℕ) (list : Option (List Watched)) (body : Actions) → doing_at d p ≡ Some (Comb list body) →
      s.woken p ≡ true → IsShut d c b s.value body
  pub waits :
      (p : ℕ) (events : List Watched) (body : Actions) → doing_at d p ≡ Some (Edge' events body) →
      s.woken p ≡ false
  pub activated : s.activated ≡ []
  pub delayed : s.delayed ≡ []
  -- nothing else has changed
  pub kept : (i k : ℕ) → (IsReached d c i → ⊥) → Same s.value old i k

-- each run from a state at rest in which the input is set so is such a way
abbrev pub Closes : Flat → Type 0
Closes d =
    (c : ℕ) (b : Bit) → IsShutter d c b →
    (s : State) → IsAtRest d s → HaveWidths d s.value →
    (events : List Event) → CanRun d (set_to s c b) events →
    IsClosing d c b s.value (run d (set_to s c b) events)
