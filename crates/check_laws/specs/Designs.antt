-- What a design is in which a rule has no finding: processes, signals and levels.
use Rattle.std.specs.Prelude.{◌≡◌, ◌⊎◌, ℕ, ◌<◌, true, List, [], Option, Some, IsTrue}
use Rattle.std.specs.List.{All}
use Rattle.rtl_flat.specs.Flows.{body_flow, flow_of}
use Rattle.rtl_flat.specs.Levels.{IsArrow, IsBehindCycle, IsNode}
use Rattle.rtl_flat.specs.Paths.{IsSure, MayWrite, MayWriteLate, MayWriteNow, ReadsOutside}
use Rattle.rtl_flat.specs.PathSets.{IsTemporary, IsTemporaryOf, OfProcess, listed}
use Rattle.rtl_flat.specs.Process.{Watched, Actions, Doing, Comb, Edge'}
use Rattle.rtl_flat.specs.WellFormed.{has_edge}
use Rattle.event_model.specs.Queue.{doing_at, is_input}
use Rattle.rtl_flat.specs.Flats.{Flat, widths}
use Rattle.net_laws.specs.event_laws.Steady.{AreLawful}
use Rattle.net_model.specs.Gates.{Gate, IsAdmitted}
use Rattle.net_model.specs.Solution.{IsLasting, IsRegisterBit}
use Rattle.check_sense.specs.Sense.{AreMixedEdges, AreNeverWakes, AreSenseMissing}
use Rattle.check_assign.specs.check_gates.Admitted.{AreGates}
use Rattle.check_assign.specs.Assigned.{AreBlockingState, AreCombLoop, AreLatchInferred, AreMixedAssign, AreNonblockingComb, AreSeveralDrivers, AreUndriven}

-- a process that waits for no edge
abbrev pub IsComb : Flat → ℕ → Option (List Watched) → Actions → Type 0
IsComb d p list body = doing_at d p ≡ Some (Comb list body)

-- a process that waits for edges
abbrev pub IsEdge : Flat → ℕ → List Watched → Actions → Type 0
IsEdge d p events body = doing_at d p ≡ Some (Edge' events body)

-- ---- sensitivity lists

-- S1: a body lists each bit that it reads outside
abbrev pub SenseMissing : Flat → Type 0
SenseMissing d =
    AreLawful d → AreSenseMissing d [] →
    (p : ℕ) (list : Option (List Watched)) (body : Actions) → IsComb d p list body →
    (i k : ℕ) → ReadsOutside (body_flow (widths d) body) i k → listed (widths d) (Comb list body) i k ≡ true

-- a bit that a body lists, and that is a top input's or may be written by another process
pub record IsWaking (d : Flat) (p : ℕ) (list : Option (List Watched)) (body : Actions) : Type 0 where
  pub signal : ℕ
  pub bit : ℕ
  pub inside : bit < widths d signal
  pub listed : listed (widths d) (Comb list body) signal bit ≡ true
  pub source :
      IsTrue (is_input d signal)
      ⊎ ((q : ℕ) × (q ≡ p → ⊥) × OfProcess MayWrite d.signals d.tasks q signal bit)

-- S2: a body lists a bit that can wake it
abbrev pub NeverWakes : Flat → Type 0
NeverWakes d =
    AreNeverWakes d [] →
    (p : ℕ) (list : Option (List Watched)) (body : Actions) → IsComb d p list body → IsWaking d p list body

-- S3: events beside an edge are edges too
abbrev pub MixedEdges : Flat → Type 0
MixedEdges d =
    AreMixedEdges d [] →
    (p : ℕ) (events : List Watched) (body : Actions) → IsEdge d p events body →
    All (λ item. IsTrue (has_edge item.edge)) events

-- ---- assignments

-- whether it is decided which signals are temporaries
abbrev pub AreTemporariesDecided : Flat → Type 0
AreTemporariesDecided d =
    (s : ℕ) → IsTemporary d.signals d.tasks s ⊎ (IsTemporary d.signals d.tasks s → ⊥)

-- in a lawful design it is decided
abbrev pub TemporariesDecided : Flat → Type 0
TemporariesDecided d = AreLawful d → AreTemporariesDecided d

-- A1: what a body that waits for edges writes by blocking assignments are temporaries of its own
abbrev pub BlockingState : Flat → Type 0
BlockingState d =
    AreLawful d → AreBlockingState d [] →
    (p : ℕ) (events : List Watched) (body : Actions) → IsEdge d p events body →
    (i k : ℕ) → MayWriteNow (body_flow (widths d) body) i k → IsTemporaryOf d.signals d.tasks p i

-- A2: a body that waits for no edge has no nonblocking assignment
abbrev pub NonblockingComb : Flat → Type 0
NonblockingComb d =
    AreLawful d → AreNonblockingComb d [] →
    (p : ℕ) (list : Option (List Watched)) (body : Actions) → IsComb d p list body →
    (i k : ℕ) → MayWriteLate (body_flow (widths d) body) i k → ⊥

-- A3: no bit is written in both ways by a body that waits for edges
abbrev pub MixedAssign : Flat → Type 0
MixedAssign d =
    AreLawful d → AreMixedAssign d [] →
    (p : ℕ) (events : List Watched) (body : Actions) → IsEdge d p events body →
    (i k : ℕ) → MayWriteNow (body_flow (widths d) body) i k → MayWriteLate (body_flow (widths d) body) i k → ⊥

-- A4: a bit is written by one process alone
abbrev pub SeveralDrivers : Flat → Type 0
SeveralDrivers d =
    AreLawful d → AreSeveralDrivers d [] →
    (p q : ℕ) (does other : Doing) → doing_at d p ≡ Some does → doing_at d q ≡ Some other →
    (i k : ℕ) → MayWrite (flow_of (widths d) does) i k → MayWrite (flow_of (widths d) other) i k → p ≡ q

-- a bit that some process without edges may write
pub record IsComputedBit (d : Flat) (i k : ℕ) : Type 0 where
  pub process : ℕ
  pub node : IsNode d.tasks process
  pub may : OfProcess MayWrite d.signals d.tasks process i k

-- A5: each bit that lasts is an input's or a register's, or is computed
abbrev pub Undriven : Flat → Type 0
Undriven d =
    AreUndriven d [] →
    (i k : ℕ) → k < widths d i → IsLasting d i →
    IsTrue (is_input d i) ⊎ (IsRegisterBit d i k ⊎ IsComputedBit d i k)

-- A6: no process is on a cycle of the level graph or behind one
abbrev pub CombLoop : Flat → Type 0
CombLoop d =
    AreCombLoop d [] → (p : ℕ) → IsBehindCycle (IsArrow d.signals d.tasks) p → ⊥

-- A6: a body that waits for no edge reads outside nothing that it may write
abbrev pub CombLoopAlone : Flat → Type 0
CombLoopAlone d =
    AreCombLoop d [] →
    (p : ℕ) (list : Option (List Watched)) (body : Actions) → IsComb d p list body →
    (i k : ℕ) → ReadsOutside (body_flow (widths d) body) i k → MayWrite (body_flow (widths d) body) i k → ⊥

-- whether it is decided which processes are latches with a gate from outside
abbrev pub AreLatchesDecided : Flat → Type 0
AreLatchesDecided d =
    (p : ℕ) → ((gate : Gate) × IsAdmitted d p gate) ⊎ ((gate : Gate) → IsAdmitted d p gate → ⊥)

-- the list of all of them decides it
abbrev pub LatchesDecided : Flat → Type 0
LatchesDecided d = (gates : List (ℕ × Gate)) → AreGates d gates → AreLatchesDecided d

-- L1: a body without edges writes on every path each bit that it may write, unless it is a temporary's; or it is a latch with
-- a gate from outside
abbrev pub LatchInferred : Flat → Type 0
LatchInferred d =
    AreLawful d → (gates : List (ℕ × Gate)) → AreGates d gates → AreLatchInferred d [] →
    (p : ℕ) (list : Option (List Watched)) (body : Actions) → IsComb d p list body →
    ((i k : ℕ) → MayWrite (body_flow (widths d) body) i k → IsLasting d i → IsSure (body_flow (widths d) body) i k)
    ⊎ ((gate : Gate) × IsAdmitted d p gate)
