-- It serves inner contracts and proofs; no answer of the program is stated by it.
-- How the list of admitted latches is made.
use Rattle.std.specs.Prelude.{ℕ, ◌≡◌, ◌<◌, ◌≤◌, ◌++◌, ◌↔◌, ◌&&◌, not, Bool, true, false, if◌then◌else◌, List, [], ◌∷◌, map, length, slice_index_or, Option, Some, None}
use Rattle.std.specs.List.{slice_get}
use Rattle.rtl_bits.specs.declared.Bit.{Bit}
use Rattle.rtl_bits.specs.declared.Bit.TheVariants.{Zero, One}
use Rattle.rtl_bits.specs.Bits.{same_bit}
use Rattle.rtl_flat.specs.Flats.{Flat}
use Rattle.net_model.specs.Control.{IsClockOrReset}
use Rattle.net_model.specs.Gates.{Gate, IsGatedLatch}
use Rattle.check_chains.specs.rtl_scan.Arrows.{Among, AreRising}
use Rattle.check_gates.specs.Admitted.{AreInOrder}
use Rattle.check_gates.specs.declared.form.Form.{Form}
use Rattle.check_gates.specs.declared.gate.Gate as declared
use Rattle.check_gates.specs.declared.inputs.Inputs.{Inputs}

abbrev pub HasGate : List (ℕ × Gate) → ℕ → Gate → Type 0
HasGate gates p gate = (n : ℕ) × (slice_get gates n ≡ Some (p, gate))

-- the gates of a process of a form, for some inputs
abbrev pub gates_at : ℕ → Form → List ℕ → List (ℕ × Gate)
gates_at p form inputs =
    map (λ input. (p, record { signal = form.signal.0; input = input; opens = form.opens_at })) inputs

-- they are added for each of some inputs, in order
pub record AddsGates (p : ℕ) (form : Form) (tops : List ℕ) (old new : List (ℕ × Gate)) : Type 0 where
  pub inputs : List ℕ
  pub rising : AreRising inputs
  pub each : (c : ℕ) → Among inputs c ↔ Among tops c
  pub added : new ≡ old ++ gates_at p form inputs

-- all latches of the processes below a number, with a gate from outside
pub record AreLatches (d : Flat) (n : ℕ) (gates : List (ℕ × Gate)) : Type 0 where
  pub each : (p : ℕ) (gate : Gate) → ((p < n) × IsGatedLatch d p gate) ↔ HasGate gates p gate
  pub in_order : AreInOrder gates

-- the input of a latch that is open at a value
abbrev pub open_input : Bit → declared.Gate → List ℕ
open_input opens gate = if same_bit gate.opens_at opens then gate.input.0 ∷ [] else []

-- the process of a latch
abbrev pub own_process : declared.Gate → List ℕ
own_process gate = gate.process.0 ∷ []

abbrev pub own_input : declared.Gate → List ℕ
own_input gate = gate.input.0 ∷ []

-- the clocks and resets among inputs
pub record AreClocks (d : Flat) (n : ℕ) (marks : List Bool) : Type 0 where
  pub size : length marks ≡ length d.signals
  pub each : (c : ℕ) → slice_index_or marks c false ≡ true ↔ ((c < n) × IsClockOrReset d c)

-- whether some latch with an input is open at a value
abbrev pub IsOpenAt : List (ℕ × Gate) → Bit → ℕ → Type 0
IsOpenAt gates opens c =
    (p : ℕ) × (gate : Gate) × HasGate gates p gate × (gate.input ≡ c) × (gate.opens ≡ opens)

-- what is kept of inputs
pub record AreInputs (d : Flat) (gates : List (ℕ × Gate)) (inputs : Inputs) : Type 0 where
  pub clocks : (c : ℕ) → slice_index_or inputs.clocks.items c false ≡ true ↔ IsClockOrReset d c
  pub high : (c : ℕ) → slice_index_or inputs.high.items c false ≡ true ↔ ((c < length d.signals) × IsOpenAt gates One c)
  pub low : (c : ℕ) → slice_index_or inputs.low.items c false ≡ true ↔ ((c < length d.signals) × IsOpenAt gates Zero c)

-- whether a latch opens against another with its input
abbrev pub is_opposed : Inputs → Bit → ℕ → Bool
is_opposed inputs One c = slice_index_or inputs.low.items c false
is_opposed inputs Zero c = slice_index_or inputs.high.items c false
is_opposed inputs _ c = true

abbrev pub admits : Inputs → declared.Gate → Bool
admits inputs gate =
    not (slice_index_or inputs.clocks.items gate.input.0 false) && not (is_opposed inputs gate.opens_at gate.input.0)

-- a latch, if it is admitted
abbrev pub kept : Inputs → declared.Gate → Option declared.Gate
kept inputs gate = if admits inputs gate then Some gate else None

-- a place before which processes are below a number, and from which on they aren't
abbrev pub IsPlaceOf : List declared.Gate → ℕ → ℕ → Type 0
IsPlaceOf gates process place =
    (n : ℕ) (gate : declared.Gate) → slice_get gates n ≡ Some gate →
    ((n < place → gate.process.0 < process) × (place ≤ n → process ≤ gate.process.0))
