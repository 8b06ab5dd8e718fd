-- Control inputs as clocks, resets and gates.
use Rattle.std.proofs.Common.{◌≡◌, ℕ, Option, Some, None, inl, inr, ap, subst}
use Rattle.std.specs.Prelude.{IsTrue}
use Rattle.std.specs.List.{slice_get}
use Rattle.std.specs.Option.{IsSomeAnd}
use Rattle.rtl_flat.specs.declared.signal.Signal.{Signal}
use Rattle.rtl_flat.specs.declared.signal.Kind.TheVariants.{TopInput}
use Rattle.event_model.specs.Queue.{is_input, is_input_kind, is_input_of}
use Rattle.rtl_flat.specs.Flats.{Flat}
use Rattle.net_model.specs.Control.{InClockCone, IsClockOrReset, IsUnclocked}
use Rattle.net_model.specs.Gates.{ComesFrom, InCone, IsControl, IsDataInput, IsGateInput}

top_is_input : (one : Option Signal) → IsSomeAnd one (λ signal. signal.kind ≡ TopInput) → IsTrue (is_input_of one)
top_is_input None h = absurd h
top_is_input (Some signal) h = ap is_input_kind h

-- what signals come from is an input
pub from_input : (d : Flat) (top i : ℕ) → ComesFrom d top i → IsTrue (is_input d top)
from_input d top i comes = top_is_input (slice_get d.signals top) comes.input

pub gate_is_input : (d : Flat) (c : ℕ) → IsGateInput d c → IsTrue (is_input d c)
gate_is_input d c gate =
    subst (λ (i : ℕ). IsTrue (is_input d i)) gate.same (from_input d gate.gate.input gate.gate.signal gate.admitted.latch.comes)

pub control_input : (d : Flat) (c : ℕ) → IsControl d c → IsTrue (is_input d c)
control_input d c (inl clock) = clock.input
control_input d c (inr gate) = gate_is_input d c gate

-- a clock or a reset is a control input, its cone is in the control cone, and a data input is none
pub clock_control : (d : Flat) (c : ℕ) → IsClockOrReset d c → IsControl d c
clock_control d c clock = inl clock

pub clock_cone : (d : Flat) (i : ℕ) → InClockCone d i → InCone d i
clock_cone d i cone =
    record { control = cone.clock; is_control = inl cone.is_clock; reached = cone.reached }

pub data_unclocked : (d : Flat) (i : ℕ) → IsDataInput d i → IsUnclocked d i
data_unclocked d i data_input =
    record { input = data_input.input; no_clock = λ clock. data_input.no_control (inl clock) }
