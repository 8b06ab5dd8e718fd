-- What the steps of a trial set. Inputs stand in the order of the header, and steps are numbered from 1.
-- Worked examples: proofs/Examples.antt.
use Rattle.std.specs.Prelude.{ℕ, ◌+◌, ◌/◌, ◌%◌, ◌==◌, ◌||◌, ◌&&◌, nat_lt, not, Bool, if◌then◌else◌, List, [], ◌∷◌, map, length, replicate, codes, Option, None, Some, slice_get}
use Rattle.std.specs.Int.{trailing_zeros, w8}
use Rattle.std.specs.List.{filter}
use Rattle.rtl_bits.specs.declared.Bit.{Bit}
use Rattle.rtl_bits.specs.declared.Bit.TheVariants.{Zero}
use Rattle.rtl_bits.specs.Bit.{not_bit}
use Rattle.rtl_bits.specs.Bits.{bits_of}
use Rattle.rtl_flat.specs.declared.expr.SigId.{SigId}
use Rattle.event_model.specs.declared.setting.Setting.{Setting}
use Rattle.demo_trials.specs.declared.input.Input.{Input as Kept}
use Rattle.demo_trials.specs.Draws.{drawn}

-- a top input: its signal, its path, whether it is a control input (a clock, a reset or a gate), and the value that it has
pub record Input : Type 0 where
  pub signal : SigId
  pub path : List ℕ
  pub is_control : Bool
  pub value : List Bit

-- what a contract sees of an input
abbrev pub input : Kept → Input
input kept =
    record { signal = kept.signal; path = kept.path.now; is_control = kept.is_control; value = kept.value }

-- the control inputs
abbrev pub controls : List Input → List Input
controls inputs = filter (λ input. input.is_control) inputs

-- the other inputs
abbrev pub data_inputs : List Input → List Input
data_inputs inputs = filter (λ input. not input.is_control) inputs

-- what gives an input other bits
abbrev pub set_to : Input → List Bit → Setting
set_to input bits = record { signal = input.signal; value = bits }

-- every bit of an input's value, complemented
abbrev pub complement : Input → Setting
complement input = set_to input (map not_bit input.value)

-- the complement of an input, if there is one
abbrev pub complement_of : Option Input → List Setting
complement_of None = []
complement_of (Some input) = complement input ∷ []

-- trials 0 to 7: one input is complemented, chosen by the trailing zeros of the step's number
abbrev pub turning_step : ℕ → ℕ → List Input → List Setting
turning_step trial step inputs =
    complement_of (slice_get inputs ((trailing_zeros w8 step + trial / 2) % length inputs))

-- whether a step of the trials 8 to 31 complements a control input: where there is one, each second step does, and
-- every step where there is nothing else
abbrev pub is_control_step : ℕ → List Input → Bool
is_control_step step inputs =
    nat_lt 0 (length (controls inputs)) && ((step % 2 == 0) || (length (data_inputs inputs) == 0))

-- an input takes what is drawn for its path, modulo 2 to its width
abbrev pub drawn_setting : ℕ → ℕ → Input → Setting
drawn_setting trial step input = set_to input (bits_of (length input.value) (drawn trial step input.path))

-- trials 8 to 31: one control input is complemented, or all other inputs are drawn
abbrev pub drawn_step : ℕ → ℕ → List Input → List Setting
drawn_step trial step inputs =
    if is_control_step step inputs
    then complement_of (slice_get (controls inputs) (drawn trial step (codes "control") % length (controls inputs)))
    else map (drawn_setting trial step) (data_inputs inputs)

-- an input takes 0
abbrev pub zero_setting : Input → Setting
zero_setting input = set_to input (replicate (length input.value) Zero)

-- what a step of a trial sets, where inputs have these values before it
abbrev pub step_of : ℕ → ℕ → List Input → List Setting
step_of trial step inputs =
    if nat_lt trial 8 then turning_step trial step inputs
    else if nat_lt trial 32 then drawn_step trial step inputs
    else map zero_setting inputs
