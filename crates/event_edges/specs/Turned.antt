-- A step that turns one clock or reset, up to the activation of the nonblocking updates.
use Rattle.std.specs.Prelude.{◌≡◌, ◌≢◌, ◌⊎◌, ℕ, Bool, true, false, ◌&&◌, ◌||◌, if◌then◌else◌, List, [], ◌∷◌, Option, Some, IsTrue}
use Rattle.std.specs.List.{list_any}
use Rattle.rtl_bits.specs.declared.Bit.{Bit}
use Rattle.rtl_flat.specs.Expression.{Tree}
use Rattle.rtl_flat.specs.PathSets.{IsTemporaryOf, items_list}
use Rattle.rtl_flat.specs.Process.{Piece, Watched, Actions, Assign, Comb, Edge'}
use Rattle.event_model.specs.Queue.{State, IsAtRest, doing_at, happens, is_input, offer}
use Rattle.rtl_flat.specs.Flats.{Flat}
use Rattle.event_model.specs.Traces.{Same}
use Rattle.event_model.specs.Writes.{Values}
use Rattle.event_runs.specs.event_laws.Steady.{HaveWidths}
use Rattle.net_model.specs.Control.{InClockCone, IsClockOrReset, IsLink, IsPassedOn, IsReached}
use Rattle.net_model.specs.Numbers.{bit}
use Rattle.event_runs.specs.Nets.{AreResolved}
use Rattle.event_runs.specs.Writers.{IsOrderly}

-- ---- events of lists

-- whether the change between two values is an event for an item, which is a signal of one bit
abbrev pub item_fires : Values → Values → Watched → Bool
item_fires old new item = happens item.edge (bit old item.signal 0) (bit new item.signal 0)

-- whether it is one for some item of a list
abbrev pub fires : Values → Values → List Watched → Bool
fires old new events = list_any (item_fires old new) events

-- ---- the turn of one input

-- a temporary of a body that waits for edges
pub record IsClockedTemporary (d : Flat) (i : ℕ) : Type 0 where
  pub process : ℕ
  pub events : List Watched
  pub body : Actions
  pub does : doing_at d process ≡ Some (Edge' events body)
  pub of_process : IsTemporaryOf d.signals d.tasks process i

-- an input that is to go from one bit to another, where all that is reached from it has the first
pub record IsTurn (d : Flat) (c : ℕ) (a b : Bit) (old : Values) : Type 0 where
  pub clock : IsClockOrReset d c
  pub other : a ≢ b
  pub wide : HaveWidths d old
  pub before : (i : ℕ) → IsReached d c i → old i ≡ a ∷ []

-- a connection through which the input reaches a port
pub record IsReachedPort (d : Flat) (c : ℕ) (target : List Piece) (e : Tree) : Type 0 where
  pub «from» : ℕ
  pub port : ℕ
  pub link : IsLink d target e «from» port
  pub passed : IsPassedOn d «from» port
  pub reached : IsReached d c «from»

-- one that is woken, since its source has turned
pub record IsTurnedPort (d : Flat) (c : ℕ) (b : Bit) (v : Values) (target : List Piece) (e : Tree) : Type 0 where
  pub is_reached : IsReachedPort d c target e
  pub turned : v is_reached.from ≡ b ∷ []

-- a state on the way, where `ran` says which bodies have run: the signals that are reached from the input turn one by
-- one, and each body that hears a turn is woken by it and runs once
pub record IsTurning (d : Flat) (c : ℕ) (a b : Bit) (old : Values) (ran : ℕ → Bool) (s : State) : Type 0 where
  pub wide : HaveWidths d s.value
  pub offered :
      (i : ℕ) (bits : List Bit) → IsTrue (is_input d i) → s.offered i ≡ Some bits → (i ≡ c) × (bits ≡ b ∷ [])
  pub behind : (i : ℕ) → IsReached d c i → (s.value i ≡ a ∷ []) ⊎ (s.value i ≡ b ∷ [])
  pub ports :
      (p : ℕ) (target : List Piece) (e : Tree) → doing_at d p ≡ Some (Assign target e) →
      s.woken p ≡ true → IsTurnedPort d c b s.value target e
  pub pending :
      (p : ℕ) (target : List Piece) (e : Tree) → doing_at d p ≡ Some (Assign target e) →
      (bits : List Bit) → s.pending p ≡ Some bits → IsReachedPort d c target e × (bits ≡ b ∷ [])
  pub waits :
      (p : ℕ) (list : Option (List Watched)) (body : Actions) → doing_at d p ≡ Some (Comb list body) →
      s.woken p ≡ false
  -- a body is woken or has run just where one of its events has come
  pub fired :
      (p : ℕ) (events : List Watched) (body : Actions) → doing_at d p ≡ Some (Edge' events body) →
      fires old s.value events ≡ (s.woken p || ran p)
  -- and one that has run isn't woken again
  pub once :
      (p : ℕ) (events : List Watched) (body : Actions) → doing_at d p ≡ Some (Edge' events body) →
      (s.woken p && ran p) ≡ false
  pub activated : s.activated ≡ []
  -- nothing else has changed, but for temporaries of bodies that ran
  pub kept : (i k : ℕ) → (IsReached d c i → ⊥) → (IsClockedTemporary d i → ⊥) → Same s.value old i k

-- ---- steps of one clock or reset

-- a state at rest in which a clock or a reset has one bit, and is to have the other
pub record IsEdgeStart (d : Flat) (c : ℕ) (a b : Bit) (s : State) : Type 0 where
  pub rest : IsAtRest d s
  pub order : IsOrderly d s
  pub resolved : AreResolved d s
  pub clock : IsClockOrReset d c
  pub before : s.value c ≡ a ∷ []
  pub other : a ≢ b

-- it is set
abbrev pub set_to : State → ℕ → Bit → State
set_to s c b = offer s ((c, b ∷ []) ∷ [])

-- what a body finds where one of its events has come: its clocks and resets are new, all else is old
abbrev pub found_at : (ℕ → ℕ) → List Watched → Values → Values → Values
found_at ws events old new i = if items_list ws events i 0 then new i else old i

-- after it all that is reached from the input has the other bit, and the rest of the clock cone is as it was
pub record IsTurnedAt (d : Flat) (c : ℕ) (b : Bit) (s t : State) : Type 0 where
  pub turned : (i : ℕ) → IsReached d c i → t.value i ≡ b ∷ []
  pub others : (i k : ℕ) → InClockCone d i → (IsReached d c i → ⊥) → Same t.value s.value i k
