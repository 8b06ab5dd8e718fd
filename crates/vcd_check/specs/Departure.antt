-- The numbers of synthesised hardware beside the times of a dump: where they begin, how the inputs are read that change
-- between two times, and the first signal that is recorded otherwise (IEEE 1364.1-2002 section 5.2).
-- Worked examples: crates/tests_departures/stdin.
use Rattle.std.specs.Prelude.{◌≡◌, ◌≢◌, ◌↔◌, ◌<◌, ◌⊎◌, ℕ, Bool, true, false, not, ◌&&◌, if◌then◌else◌, List, [], ◌∷◌, ◌++◌, map, Option, None, Some}
use Rattle.std.specs.List.{filter, list_all}
use Rattle.rtl_bits.specs.declared.Bit.{Bit}
use Rattle.rtl_bits.specs.Bits.{has_unknown}
use Rattle.rtl_flat.specs.Flats.{Flat}
use Rattle.rtl_flat.specs.Signs.{Has}
use Rattle.event_model.specs.Writes.{Values}
use Rattle.net_model.specs.declared.fill.Fill.TheVariants.{Zero as ZeroFill}
use Rattle.net_model.specs.Cycle.{Data, IsCycle, Setting, Step, Turn}
use Rattle.net_model.specs.Gates.{IsControl}
use Rattle.netlist_eval.specs.net_list.Chosen.{chains_of}
use Rattle.netlist_eval.specs.net_start.Stored.{AreInputs, AreStored, IsStored}
use Rattle.netlist_eval.specs.Steps.{IsBegun}
use Rattle.demo_told.specs.Same.{are_same}
use Rattle.vcd_signals.specs.Signals.{Sight}

-- ---- what is looked at

-- registers and latches, and top inputs, by number; and which inputs are clocks, resets and gates
pub record Watched : Type 0 where
  pub stored : List ℕ
  pub tops : List ℕ
  pub is_control : ℕ → Bool

-- those of a design
pub record IsWatched (d : Flat) (watched : Watched) : Type 0 where
  pub are_stored : AreStored d watched.stored
  pub are_tops : AreInputs d watched.tops
  pub are_controls : (i : ℕ) → watched.is_control i ≡ true ↔ IsControl d i

-- the value of a signal that is recorded
abbrev pub or_none : Option (List Bit) → List Bit
or_none None = []
or_none (Some bits) = bits

abbrev pub recorded : Sight → ℕ → List Bit
recorded sight i = or_none (sight.value i)

-- whether a value is recorded, and has no x or z
abbrev pub is_known : Option (List Bit) → Bool
is_known None = false
is_known (Some bits) = not (has_unknown bits)

-- ---- the start

-- whether every top input, register and latch is known
abbrev pub is_start : Watched → Sight → Bool
is_start watched sight =
    list_all (λ i. is_known (sight.value i)) watched.tops && list_all (λ i. is_known (sight.value i)) watched.stored

-- the times from the first such on
abbrev pub from_start : Watched → List Sight → List Sight
from_start watched [] = []
from_start watched (sight ∷ sights) = if is_start watched sight then sight ∷ sights else from_start watched sights

-- the numbers there: a solution with fill 0 for the recorded inputs, registers and latches, where a register under an
-- active reset has its constant
abbrev pub AreFirst : Flat → Watched → Sight → Values → Type 0
AreFirst d watched sight n =
    IsBegun d (chains_of d) ZeroFill (map (recorded sight) watched.stored) (map (recorded sight) watched.tops) n

-- ---- from one time to the next

-- an input whose recorded value isn't its number before, with that value
abbrev pub change_of : List Bit → ℕ → Option (List Bit) → Option Setting
change_of old i None = None
change_of old i (Some bits) = if are_same bits old then None else Some (record { input = i; number = bits })

abbrev pub with_change : Option Setting → List Setting → List Setting
with_change None settings = settings
with_change (Some setting) settings = setting ∷ settings

-- all such inputs, in order
abbrev pub changed : Values → Sight → List ℕ → List Setting
changed n sight [] = []
changed n sight (i ∷ tops) = with_change (change_of (n i) i (sight.value i)) (changed n sight tops)

-- the steps that changes of control inputs and of data inputs are read as: nothing, one step, or the edge of one control
-- input and then all data inputs
abbrev pub read_as : List Setting → List Setting → Option (List Step)
read_as [] [] = Some []
read_as [] (one ∷ others) = Some (Data (one ∷ others) ∷ [])
read_as (control ∷ []) [] = Some (Turn control ∷ [])
read_as (control ∷ []) (one ∷ others) = Some (Turn control ∷ Data (one ∷ others) ∷ [])
read_as (control ∷ other ∷ controls) settings = None

abbrev pub steps_of : (ℕ → Bool) → List Setting → Option (List Step)
steps_of is_control settings =
    if list_all (λ (setting : Setting). not (has_unknown setting.number)) settings
    then read_as
    (filter (λ (setting : Setting). is_control setting.input) settings)
    (filter (λ (setting : Setting). not (is_control setting.input)) settings)
    else None

-- the steps up to a time, from the numbers at the one before; none where its changes can't be read so
abbrev pub steps_to : Watched → Values → Sight → Option (List Step)
steps_to watched n sight = steps_of watched.is_control (changed n sight watched.tops)

-- the numbers behind steps
abbrev pub AreCycles : Flat → List Step → Values → Values → Type 0
AreCycles d [] old new = new ≡ old
AreCycles d (step ∷ steps) old new =
    (next : Values) × IsCycle d (chains_of d) ZeroFill old step next × AreCycles d steps next new

-- ---- departures

-- a signal that is compared: a top output, a register or a latch
abbrev pub IsCompared : Flat → ℕ → Type 0
IsCompared d i = Has (λ signal. signal.top_output ≡ true) d.signals i ⊎ IsStored d i

-- a signal that is compared isn't recorded, or has its number
abbrev pub HasNumber : Flat → Sight → Values → ℕ → Type 0
HasNumber d sight n i = IsCompared d i → (bits : List Bit) → sight.value i ≡ Some bits → bits ≡ n i

-- all have
abbrev pub Agrees : Flat → Sight → Values → Type 0
Agrees d sight n = (i : ℕ) → HasNumber d sight n i

-- the first that hasn't
pub record IsDeparture (d : Flat) (sight : Sight) (n : Values) (signal : ℕ) (bits : List Bit) : Type 0 where
  pub compared : IsCompared d signal
  pub recorded_is : sight.value signal ≡ Some bits
  pub other : bits ≢ n signal
  pub first : (i : ℕ) → i < signal → HasNumber d sight n i

-- ---- all times

-- the numbers at a time, where these are the times before it from the start on, at all of which the dump agrees
pub data Reaches (d : Flat) (watched : Watched) : List Sight → Sight → Values → Type 0 where
  Begun : (sight : Sight) (n : Values) → AreFirst d watched sight n → Reaches d watched [] sight n
  Followed :
      (before : List Sight) (sight next : Sight) (n m : Values) (steps : List Step) →
      Reaches d watched before sight n → Agrees d sight n →
      steps_to watched n next ≡ Some steps → AreCycles d steps n m →
      Reaches d watched (before ++ sight ∷ []) next m
