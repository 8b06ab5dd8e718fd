-- Designs whose clocks and resets are used as such alone.
use Rattle.std.specs.Prelude.{◌≡◌, ℕ, true, List, Option, Some, IsTrue}
use Rattle.std.specs.List.{slice_get}
use Rattle.rtl_flat.specs.Expression.{Tree}
use Rattle.rtl_flat.specs.Flows.{body_flow, flow_of, reads}
use Rattle.rtl_flat.specs.Paths.{BitSet, MayWrite, MayWriteLate, MayWriteNow, ReadsOutside}
use Rattle.rtl_flat.specs.PathSets.{IsTemporaryOf, items_list, listed}
use Rattle.rtl_flat.specs.Process.{Piece, Watched, Actions, Doing, Assign, Comb, Edge'}
use Rattle.rtl_flat.specs.WellFormed.{has_edge}
use Rattle.event_model.specs.Queue.{doing_at, is_input}
use Rattle.rtl_flat.specs.Flats.{Flat, widths}
use Rattle.event_runs.specs.event_laws.Steady.{AreLawful}
use Rattle.net_model.specs.Control.{InClockCone, IsFromTop, IsLink, IsPassedOn, IsReached}

-- the bits to which a process is sensitive: those that an assignment reads, and those that a body lists
abbrev pub sensitive : (ℕ → ℕ) → Doing → BitSet
sensitive ws (Assign target e) = reads ws e
sensitive ws (Comb list body) = listed ws (Comb list body)
sensitive ws (Edge' events body) = items_list ws events

-- the connection of an input port to which a signal goes on as it is
pub record IsPort (d : Flat) (target : List Piece) (e : Tree) (i : ℕ) : Type 0 where
  pub port : ℕ
  pub link : IsLink d target e i port
  pub passed : IsPassedOn d i port

-- who may be sensitive to a signal of the control cone: ports to which it goes on, bodies that wait for edges, and a body
-- without edges where the signal is in the part of the cone that gates it
abbrev pub MayHear : (ℕ → Type 0) → Flat → Doing → ℕ → Type 0
MayHear IsGating d (Assign target e) i = IsPort d target e i
MayHear IsGating d (Comb list body) i = IsGating i
MayHear IsGating d (Edge' events body) i = Unit {0}

-- the empty part: clocks and resets gate nothing
abbrev pub NoSignal : ℕ → Type 0
NoSignal i = ⊥

-- an item of the events of a process
pub record IsItem (d : Flat) (p : ℕ) (events : List Watched) (body : Actions) (item : Watched) : Type 0 where
  pub does : doing_at d p ≡ Some (Edge' events body)
  pub place : ℕ
  pub there : slice_get events place ≡ Some item

-- what the rules give of processes, clocks and resets
pub record IsSynchronous (d : Flat) : Type 0 where
  pub lawful : AreLawful d
  -- what a body that waits for edges writes by blocking assignments are its temporaries (A1)
  pub blocking :
      (p : ℕ) (events : List Watched) (body : Actions) → doing_at d p ≡ Some (Edge' events body) →
      (i k : ℕ) → MayWriteNow (body_flow (widths d) body) i k → IsTemporaryOf d.signals d.tasks p i
  -- a body without edges has no nonblocking assignment (A2)
  pub no_late :
      (p : ℕ) (list : Option (List Watched)) (body : Actions) → doing_at d p ≡ Some (Comb list body) →
      (i k : ℕ) → MayWriteLate (body_flow (widths d) body) i k → ⊥
  -- a bit is written by one process alone (A4)
  pub alone :
      (p q : ℕ) (does other : Doing) → doing_at d p ≡ Some does → doing_at d q ≡ Some other →
      (i k : ℕ) → MayWrite (flow_of (widths d) does) i k → MayWrite (flow_of (widths d) other) i k → p ≡ q
  -- events beside an edge are edges too (S3)
  pub edges :
      (p : ℕ) (events : List Watched) (body : Actions) (item : Watched) → IsItem d p events body item →
      IsTrue (has_edge item.edge)
  -- clocks and resets come from top inputs (A7)
  pub clocks :
      (p : ℕ) (events : List Watched) (body : Actions) (item : Watched) → IsItem d p events body item →
      IsFromTop d item.signal
  -- no list has two signals that come from one input (A7)
  pub once :
      (p : ℕ) (events : List Watched) (body : Actions) (a b : Watched) →
      IsItem d p events body a → IsItem d p events body b →
      (c : ℕ) → IsTrue (is_input d c) → IsReached d c a.signal → IsReached d c b.signal → a.signal ≡ b.signal
  -- clocks and resets are used in events and in connections of ports alone (A8)
  pub heard :
      (p : ℕ) (does : Doing) → doing_at d p ≡ Some does →
      (i k : ℕ) → InClockCone d i → sensitive (widths d) does i k ≡ true →
      MayHear NoSignal d does i
  -- but for the tests of resets, which are among the events of the process (A8)
  pub tests :
      (p : ℕ) (events : List Watched) (body : Actions) → doing_at d p ≡ Some (Edge' events body) →
      (i k : ℕ) → InClockCone d i → ReadsOutside (body_flow (widths d) body) i k →
      items_list (widths d) events i k ≡ true
