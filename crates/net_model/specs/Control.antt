-- Which inputs are clocks and resets, and the signals that they come to unchanged through the ports of instances
-- (IEEE 1364-2001 sections 9.7.2 and 12.3).
-- Worked examples: proofs/Clocks.antt, crates/sign_cycles/proofs/Register.antt.
use Rattle.std.specs.Prelude.{◌≡◌, ◌≢◌, ℕ, ◌==◌, Bool, true, ◌&&◌, List, [], ◌∷◌, Some, IsTrue}
use Rattle.std.specs.List.{slice_get, list_any}
use Rattle.text_ground.specs.declared.text.Spot.{Spot}
use Rattle.rtl_flat.specs.Expression.{Tree, Sized}
use Rattle.rtl_flat.specs.Expression as tree
use Rattle.rtl_flat.specs.Flows.{reads}
use Rattle.rtl_flat.specs.Process.{Whole, Piece, Watched, Actions, Assign, Edge', Task}
use Rattle.rtl_flat.specs.Signs.{Has}
use Rattle.rtl_flat.specs.WellFormed.{has_edge}
use Rattle.event_model.specs.Queue.{doing_at, is_input}
use Rattle.rtl_flat.specs.Flats.{Flat, widths}

-- ---- input ports

-- all of a signal, as the target of an assignment at a place
abbrev pub whole_of : ℕ → Spot → List Piece
whole_of j spot = record { signal = j; selection = Whole; spot = spot } ∷ []

-- the connection of input port j: a continuous assignment to a signal of another instance than that to which it belongs
-- (section 12.3.9). In an elaborated design every other process writes signals of its own instance alone
pub record IsInputConnection (d : Flat) (p j : ℕ) (value : Tree) : Type 0 where
  pub task : Task
  pub spot : Spot
  pub there : slice_get d.tasks p ≡ Some task
  pub does : task.does ≡ Assign (whole_of j spot) value
  pub outside : Has (λ signal. signal.instance ≢ task.instance) d.signals j

-- an expression that reads one signal and no other
pub record ReadsAlone (ws : ℕ → ℕ) (value : Tree) (i : ℕ) : Type 0 where
  pub bit : ℕ
  pub read : reads ws value i bit ≡ true
  pub alone : (j k : ℕ) → reads ws value j k ≡ true → j ≡ i

-- a signal of one bit that is all that the connection of an input port of one bit reads
pub record IsPassedOn (d : Flat) (i j : ℕ) : Type 0 where
  pub process : ℕ
  pub value : Tree
  pub connection : IsInputConnection d process j value
  pub alone : ReadsAlone (widths d) value i
  pub one_bit : widths d i ≡ 1
  pub port_bit : widths d j ≡ 1

-- the signals that are reached from one through input ports, itself among them
pub data IsReached (d : Flat) (start : ℕ) : ℕ → Type 0 where
  Itself : IsReached d start start
  Through : (i j : ℕ) → IsReached d start i → IsPassedOn d i j → IsReached d start j

-- ---- clocks and resets

-- whether an item of a list waits for an edge of signal i
abbrev pub waits_for : ℕ → Watched → Bool
waits_for i item = (item.signal == i) && has_edge item.edge

-- a signal whose edges some process waits for (section 9.7.2)
pub record IsEdgeSignal (d : Flat) (i : ℕ) : Type 0 where
  pub process : ℕ
  pub events : List Watched
  pub body : Actions
  pub does : doing_at d process ≡ Some (Edge' events body)
  pub waits : list_any (waits_for i) events ≡ true

-- a clock or a reset: a top input such that a process waits for edges of what is reached from it through input ports
pub record IsClockOrReset (d : Flat) (c : ℕ) : Type 0 where
  pub input : IsTrue (is_input d c)
  pub signal : ℕ
  pub reached : IsReached d c signal
  pub edges : IsEdgeSignal d signal

-- every other top input
pub record IsUnclocked (d : Flat) (i : ℕ) : Type 0 where
  pub input : IsTrue (is_input d i)
  pub no_clock : IsClockOrReset d i → ⊥

-- the clock cone: all that is reached from clocks and resets
pub record InClockCone (d : Flat) (i : ℕ) : Type 0 where
  pub clock : ℕ
  pub is_clock : IsClockOrReset d clock
  pub reached : IsReached d clock i

-- what is reached from some top input
pub record IsFromTop (d : Flat) (i : ℕ) : Type 0 where
  pub top : ℕ
  pub input : IsTrue (is_input d top)
  pub reached : IsReached d top i

-- ---- links

-- a whole signal of one bit that is assigned another as it is
pub record IsLink (d : Flat) (target : List Piece) (value : Tree) (i j : ℕ) : Type 0 where
  pub signed : Bool
  pub spot : Spot
  pub target_spot : Spot
  pub whole : target ≡ whole_of j target_spot
  pub copy : value ≡ Sized 1 signed spot (tree.Whole i)
  pub one_bit : widths d i ≡ 1
  pub target_bit : widths d j ≡ 1

-- what is behind a signal by links, itself among it
pub data IsBehind (d : Flat) (start : ℕ) : ℕ → Type 0 where
  Here : IsBehind d start start
  Next : (i j p : ℕ) (target : List Piece) (value : Tree) → IsBehind d start i → doing_at d p ≡ Some (Assign target value) → IsLink d target value i j → IsBehind d start j
