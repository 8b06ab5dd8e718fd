-- What a simulation of a netlist shows at its beginning and after each step, and which steps it takes (IEEE 1364.1-2002
-- section 5.2).
-- Worked examples: crates/tests_rows/stdin.
use Rattle.std.specs.Prelude.{◌≡◌, ℕ, List, [], ◌∷◌, map, Some, IsTrue}
use Rattle.rtl_bits.specs.declared.Bit.{Bit}
use Rattle.rtl_flat.specs.Flows.{body_flow}
use Rattle.rtl_flat.specs.Paths.{MayWrite}
use Rattle.rtl_flat.specs.Process.{Actions, Edge', Watched}
use Rattle.event_model.specs.declared.setting.Setting.{Setting}
use Rattle.event_model.specs.Queue.{doing_at, is_input}
use Rattle.rtl_flat.specs.Flats.{Flat, widths}
use Rattle.event_model.specs.Writes.{Values}
use Rattle.net_model.specs.declared.fill.Fill.{Fill}
use Rattle.net_model.specs.Gates.{IsControl}
use Rattle.net_model.specs.Cycle as cycle
use Rattle.net_model.specs.Cycle.{Chain, reset_bit, strongest}
use Rattle.net_model.specs.Lawful.{IsLawfulStep}
use Rattle.net_model.specs.Numbers.{bit}
use Rattle.net_model.specs.Solution.{IsLasting, IsSolution}
use Rattle.net_order.specs.Order.{IsCyclic, IsLeastCyclic}
use Rattle.net_turn.specs.net_settle.Settle.{setting_view}
use Rattle.net_start.specs.Start.{IsFirstUnknown, IsStart}
use Rattle.net_start.specs.Stored.{AreInputs, AreStored}
use Rattle.netlist_eval.specs.declared.fault.NetFault.{NetFault}
use Rattle.netlist_eval.specs.declared.fault.NetFault.TheVariants as fault
use Rattle.netlist_eval.specs.declared.step.Step.{Step}
use Rattle.netlist_eval.specs.declared.step.Step.TheVariants.{Data, Turn}

-- ---- steps

-- the plain form of a step
abbrev pub step_view : Step → cycle.Step
step_view (Data settings) = cycle.Data (map setting_view settings.now)
step_view (Turn setting) = cycle.Turn (setting_view setting)

-- settings as a step: one setting of a clock, a reset or a gate turns it, all others set data inputs
abbrev pub IsStepOf : Flat → List Setting → Step → Type 0
IsStepOf d settings (Data all) =
    (all.now ≡ settings) × ((one : Setting) → settings ≡ one ∷ [] → IsControl d one.signal.0 → ⊥)
IsStepOf d settings (Turn one) = (settings ≡ one ∷ []) × ∥ IsControl d one.signal.0 ∥₁

-- a step that may be taken from some numbers: known values of their width for data inputs, or the other value for one
-- clock, reset or gate
abbrev pub IsLawful : Flat → Values → Step → Type 0
IsLawful d n step = ∥ IsLawfulStep d n (step_view step) ∥₁

-- ---- the beginning

-- numbers that solve the equations, where latches had what is given, and inputs are as given. So are registers, but for
-- one under an active reset, which has the constant of the strongest
pub record Starts (d : Flat) (chains : ℕ → Chain) (f : Fill) (start n : Values) : Type 0 where
  pub solution : IsSolution d f start n n
  pub inputs : (i : ℕ) → IsTrue (is_input d i) → n i ≡ start i
  pub registers :
      (p : ℕ) (events : List Watched) (body : Actions) → doing_at d p ≡ Some (Edge' events body) →
      (i k : ℕ) → MayWrite (body_flow (widths d) body) i k → IsLasting d i →
      bit n i k ≡ reset_bit (widths d) f start (strongest n (chains p).resets) (bit start i k) i k

-- what is shown at the beginning, where values are given for registers and latches and for inputs, in order
pub record IsBegun (d : Flat) (chains : ℕ → Chain) (f : Fill) (registers inputs : List (List Bit)) (n : Values) : Type 0 where
  pub stored : List ℕ
  pub are_stored : AreStored d stored
  pub tops : List ℕ
  pub are_tops : AreInputs d tops
  pub start : Values
  pub is_start : IsStart d f stored registers tops inputs start
  pub starts : Starts d chains f start n

-- ---- faults

-- no process is on or behind a cycle
abbrev pub HasNoCycle : Flat → Type 0
HasNoCycle d = (s : ℕ) → IsCyclic d s → ⊥

-- a cycle comes first, then the first value with an unknown bit
abbrev pub IsFault : Flat → List (List Bit) → NetFault → Type 0
IsFault d values (fault.Cyclic signal) = IsLeastCyclic d signal.0
IsFault d values (fault.NotKnown at) =
    HasNoCycle d × IsFirstUnknown values at
IsFault d values fault.Memory = Unit {0}

-- why processes have no order
abbrev pub IsOrderFault : Flat → NetFault → Type 0
IsOrderFault d (fault.Cyclic signal) = IsLeastCyclic d signal.0
IsOrderFault d (fault.NotKnown at) = ⊥
IsOrderFault d fault.Memory = Unit {0}
