-- Designs in which each block that waits for edges is a register with a clock and at most one asynchronous reset
-- (IEEE 1364.1-2002 section 5.2).
use Rattle.std.specs.Prelude.{◌≡◌, ℕ, ◌≤◌, true, false, List, length, Some}
use Rattle.std.specs.List.{All}
use Rattle.rtl_bits.specs.declared.Bit.{Bit}
use Rattle.rtl_bits.specs.Bits.{same_bit}
use Rattle.rtl_flat.specs.Flows.{body_flow, reads}
use Rattle.rtl_flat.specs.Paths.{IsSure, MayWrite, MayWriteNow, ReadsOutside}
use Rattle.rtl_flat.specs.Process.{Watched, Actions, Edge'}
use Rattle.event_model.specs.Queue.{doing_at}
use Rattle.rtl_flat.specs.Flats.{Flat, widths}
use Rattle.net_model.specs.Control.{InClockCone}
use Rattle.net_model.specs.Cycle.{Chain, Guard, IsChain}
use Rattle.net_model.specs.Gates.{Gate, IsAdmitted}
use Rattle.net_model.specs.Solution.{IsLasting}
use Rattle.net_rest.specs.net_laws.Tame.{AreSplit, AreTame}
use Rattle.net_rest.specs.Rest.{IsSolvable}
use Rattle.event_edges.specs.Synchronous.{IsSynchronous}
use Rattle.event_gates.specs.Gates.{AreFed, IsShutter}

-- ---- resets

-- what a reset does is constant: it reads nothing, and by nonblocking assignments it writes on every path each bit of the
-- registers of its body
pub record IsConstant (d : Flat) (body branch : Actions) : Type 0 where
  pub reads_nothing : (i k : ℕ) → ReadsOutside (body_flow (widths d) branch) i k → ⊥
  pub sets :
      (i k : ℕ) → MayWrite (body_flow (widths d) body) i k → IsLasting d i → IsSure (body_flow (widths d) branch) i k
  pub late : (i k : ℕ) → MayWriteNow (body_flow (widths d) branch) i k → ⊥

-- a test reads the signal of its event alone
abbrev pub TestsAlone : Flat → Guard → Type 0
TestsAlone d guard = (i k : ℕ) → reads (widths d) guard.test i k ≡ true → i ≡ guard.item.signal

-- ---- blocks

-- a body that waits for edges, formed as a register with its resets and its clock
pub record IsFormed (d : Flat) (events : List Watched) (body : Actions) (chain : Chain) : Type 0 where
  -- a clock, and resets that lead the body (R1), each tested for the level of its edge (R2)
  pub chained : IsChain d events body chain
  -- one reset at most (R3)
  pub one_reset : length chain.resets ≤ 1
  pub alone : All (TestsAlone d) chain.resets
  -- resets set constants (R4)
  pub constants : All (λ guard. IsConstant d body guard.branch) chain.resets
  -- what is done at the clock's edge reads no clock and no reset (A8)
  pub apart : (i k : ℕ) → ReadsOutside (body_flow (widths d) chain.part) i k → InClockCone d i → ⊥
  -- expressions have numbers (X1, Z1, X2, X3), and cases that are taken for complete are (C1)
  pub tame : AreTame d body
  -- no bit is written in both ways (A3), and items that are taken to exclude one another do (C2)
  pub split : AreSplit d body

-- ---- latches

-- a gate alone: what is reached from its input goes on through plain ports, and while it is closed nothing hears it but such
-- ports, and latches that do nothing
pub record IsGateAlone (d : Flat) (gate : Gate) : Type 0 where
  pub fed : AreFed d gate.input
  pub shutter : (b : Bit) → same_bit b gate.opens ≡ false → IsShutter d gate.input b

-- ---- designs

-- what the rules give of a clean design, where `level` orders its processes without edges
pub record IsCleanClocked (d : Flat) (chains : ℕ → Chain) (level : ℕ → ℕ) : Type 0 where
  -- what has no edges computes, and its equations have one solution (S1, A2 to A6, L1, C1, C2, X1 to X3, Z1)
  pub solvable : IsSolvable d level
  -- clocks and resets are used as such alone (S3, A1, A2, A4, A7, A8)
  pub synchronous : IsSynchronous d
  -- each block that waits for edges is a register (R1 to R4)
  pub formed :
      (p : ℕ) (events : List Watched) (body : Actions) → doing_at d p ≡ Some (Edge' events body) →
      IsFormed d events body (chains p)
  -- gates are used as such alone (A4, A8)
  pub gates : (p : ℕ) (gate : Gate) → IsAdmitted d p gate → IsGateAlone d gate
