-- Latches with a gate from outside, and control inputs: clocks, resets and such gates (IEEE 1364.1-2002 section 5.3, IEEE
-- 1364-2001 sections 9.7.2 and 12.3).
-- Worked examples: crates/check_gates/proofs/Example.antt.
use Rattle.std.specs.Prelude.{◌≡◌, ◌≢◌, ◌⊎◌, ℕ, ◌==◌, Bool, true, if◌then◌else◌, List, [], ◌∷◌, Option, Some, None, IsTrue}
use Rattle.std.specs.List.{slice_get}
use Rattle.rtl_bits.specs.declared.Bit.{Bit}
use Rattle.rtl_bits.specs.declared.Bit.TheVariants.{Zero, One}
use Rattle.rtl_bits.specs.Bits.{same_bit}
use Rattle.text_ground.specs.declared.text.Spot.{Spot}
use Rattle.rtl_flat.specs.declared.expr.Compare.TheVariants as compare
use Rattle.rtl_flat.specs.declared.expr.Fold.TheVariants as fold
use Rattle.rtl_flat.specs.declared.expr.Turn.TheVariants as turn
use Rattle.rtl_flat.specs.declared.signal.Kind.TheVariants.{TopInput}
use Rattle.rtl_flat.specs.Expression.{Tree, Sized, Literal, Whole, Turned, Compared, Folded}
use Rattle.rtl_flat.specs.Flows.{body_flow, list_reads}
use Rattle.rtl_flat.specs.Paths.{IsSureNow, MayRead, MayWrite, ReadsOutside}
use Rattle.rtl_flat.specs.PathSets.{OfProcess}
use Rattle.rtl_flat.specs.Process.{Watched, If, Actions, Done, Then, Without, Assign, Comb, Task}
use Rattle.rtl_flat.specs.Process as part
use Rattle.rtl_flat.specs.Signs.{Has}
use Rattle.event_model.specs.Queue.{doing_at, is_input}
use Rattle.rtl_flat.specs.Flats.{Flat, widths}
use Rattle.event_model.specs.Writes.{Values}
use Rattle.net_model.specs.Control.{IsClockOrReset, IsReached}
use Rattle.net_model.specs.Cycle.{opened}
use Rattle.net_model.specs.Numbers.{bit}
use Rattle.net_model.specs.Solution.{IsLasting}

-- ---- plain ports

-- a connection of an input port: a signal of one bit, as it is, goes to a signal of one bit of another instance
pub record IsPlainConnection (d : Flat) (task : Task) (i j : ℕ) : Type 0 where
  pub signed : Bool
  pub spot : Spot
  pub at : Spot
  pub does : task.does ≡ Assign (record { signal = j; selection = part.Whole; spot = at } ∷ []) (Sized 1 signed spot (Whole i))
  pub outside : Has (λ signal. signal.instance ≢ task.instance) d.signals j
  pub one_bit : widths d i ≡ 1
  pub port_bit : widths d j ≡ 1

-- what a signal goes to by such connections, itself among it
pub data GoesTo (d : Flat) (start : ℕ) : ℕ → Type 0 where
  Itself : GoesTo d start start
  Through : (i j p : ℕ) (task : Task) → GoesTo d start i → slice_get d.tasks p ≡ Some task → IsPlainConnection d task i j → GoesTo d start j

-- whether a signal comes from a top input
pub record ComesFrom (d : Flat) (top i : ℕ) : Type 0 where
  pub input : Has (λ signal. signal.kind ≡ TopInput) d.signals top
  pub goes : GoesTo d top i

-- ---- gates

-- a gate: the signal that a latch tests, the top input that it comes from, and the value at which the latch is open
pub record Gate : Type 0 where
  pub signal : ℕ
  pub input : ℕ
  pub opens : Bit

-- `g == 1'b1`, `g == 1'b0`
abbrev pub gate_compared : ℕ → List Bit → Option (ℕ × Bit)
gate_compared g (One ∷ []) = Some (g, One)
gate_compared g (Zero ∷ []) = Some (g, Zero)
gate_compared g _ = None

-- a test of a gate, `g`, `!g`, `~g` and these: the signal, and the value at which it holds
abbrev pub gate_test : Tree → Option (ℕ × Bit)
gate_test (Sized w s at (Whole g)) = Some (g, One)
gate_test (Sized w s at (Folded fold.Negation (Sized w' s' at' (Whole g)))) = Some (g, Zero)
gate_test (Sized w s at (Turned turn.Complement (Sized w' s' at' (Whole g)))) = if w' == 1 then Some (g, Zero) else None
gate_test (Sized w s at (Compared compare.Equal t (Sized w' s' at' (Whole g)) (Sized w'' s'' at'' (Literal bits)))) = gate_compared g bits
gate_test _ = None

-- an `always` without edges that is one `if` without `else` on a bit that comes from a top input by plain ports
pub record IsGatedLatch (d : Flat) (p : ℕ) (gate : Gate) : Type 0 where
  pub list : Option (List Watched)
  pub body : Actions
  pub test : Tree
  pub branch : Actions
  pub spot : Spot
  pub does : doing_at d p ≡ Some (Comb list body)
  pub whole : opened body ≡ Then (If test branch Without spot) Done
  pub tests : gate_test test ≡ Some (gate.signal, gate.opens)
  pub one_bit : widths d gate.signal ≡ 1
  pub comes : ComesFrom d gate.input gate.signal
  -- each bit that it may write is written on every path of the branch, by a blocking assignment
  pub writes :
      (i k : ℕ) → MayWrite (body_flow (widths d) body) i k → IsSureNow (body_flow (widths d) branch) i k
  -- of some variable that is no temporary
  pub holds : (i : ℕ) × (k : ℕ) × MayWrite (body_flow (widths d) body) i k × IsLasting d i
  -- it reads outside no bit that it may write, in indices of its list neither
  pub apart :
      (i k : ℕ) → ReadsOutside (body_flow (widths d) body) i k → MayWrite (body_flow (widths d) body) i k → ⊥
  pub list_apart :
      (i k : ℕ) → list_reads (widths d) list i k ≡ true → MayWrite (body_flow (widths d) body) i k → ⊥
  -- and reads the gate in its test alone
  pub once : (k : ℕ) → MayRead (body_flow (widths d) branch) gate.signal k → ⊥
  pub list_once : (k : ℕ) → list_reads (widths d) list gate.signal k ≡ true → ⊥

-- its gate is no clock and no reset, and all latches with this gate input are open at one value
pub record IsAdmitted (d : Flat) (p : ℕ) (gate : Gate) : Type 0 where
  pub latch : IsGatedLatch d p gate
  pub no_clock : IsClockOrReset d gate.input → ⊥
  pub alike : (q : ℕ) (other : Gate) → IsGatedLatch d q other → other.input ≡ gate.input → other.opens ≡ gate.opens

-- the gate of some latch, as a top input
pub record IsGateInput (d : Flat) (c : ℕ) : Type 0 where
  pub process : ℕ
  pub gate : Gate
  pub admitted : IsAdmitted d process gate
  pub same : gate.input ≡ c

-- the signal that a latch tests
pub record IsGateOf (d : Flat) (p s : ℕ) : Type 0 where
  pub gate : Gate
  pub admitted : IsAdmitted d p gate
  pub same : gate.signal ≡ s

-- a bit of a latch: such a process may write it, and its variable is no temporary
pub record IsLatchBit (d : Flat) (i k : ℕ) : Type 0 where
  pub process : ℕ
  pub gate : Gate
  pub admitted : IsAdmitted d process gate
  pub may : OfProcess MayWrite d.signals d.tasks process i k
  pub lasting : IsLasting d i

-- a gate is open where its input has the value at which its latches are
abbrev pub is_open : Values → Gate → Bool
is_open given gate = same_bit (bit given gate.input 0) gate.opens

-- ---- control inputs

-- a control input: a clock or a reset, or a gate
abbrev pub IsControl : Flat → ℕ → Type 0
IsControl d c = IsClockOrReset d c ⊎ IsGateInput d c

-- every other top input is a data input
pub record IsDataInput (d : Flat) (i : ℕ) : Type 0 where
  pub input : IsTrue (is_input d i)
  pub no_control : IsControl d i → ⊥

-- the control cone: all that is reached from control inputs
pub record InCone (d : Flat) (i : ℕ) : Type 0 where
  pub control : ℕ
  pub is_control : IsControl d control
  pub reached : IsReached d control i
