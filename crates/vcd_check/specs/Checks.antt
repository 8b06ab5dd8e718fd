-- It serves inner contracts and proofs; no answer of the program is stated by it.
-- What is looked up and taken on the way from one time to the next.
use Rattle.std.specs.Prelude.{◌≡◌, ◌≢◌, ◌↔◌, ◌<◌, ℕ, Bool, true, false, not, ◌||◌, List, [], ◌∷◌, length, map, Option, None, Some, IsTrue, slice_index_or}
use Rattle.std.specs.List.{slice_get}
use Rattle.rtl_bits.specs.declared.Bit.{Bit}
use Rattle.rtl_bits.specs.Bits.{has_unknown}
use Rattle.rtl_flat.specs.declared.design.Design.{Design}
use Rattle.rtl_flat.specs.declared.signal.Signal.{Signal}
use Rattle.rtl_flat.specs.Flats.{Flat, flat, widths}
use Rattle.event_model.specs.Queue.{is_input}
use Rattle.event_model.specs.Writes.{Values}
use Rattle.net_model.specs.declared.fill.Fill.TheVariants.{Zero as ZeroFill}
use Rattle.net_model.specs.Cycle.{Data, Setting, Step}
use Rattle.netlist_eval.specs.declared.basis.Basis.{Basis}
use Rattle.netlist_eval.specs.declared.sim.NetSim.{NetSim}
use Rattle.netlist_eval.specs.net_list.declared.netlist.Netlist.{Netlist}
use Rattle.netlist_eval.specs.net_start.rtl_scan.Arrows.{Among}
use Rattle.netlist_eval.specs.net_start.Stored.{IsStored, places}
use Rattle.netlist_eval.specs.Sims.{netlist_of}
use Rattle.demo_told.specs.Same.{are_same}
use Rattle.vcd_signals.specs.declared.recorder.Recorder.{Recorder}
use Rattle.vcd_signals.specs.Recording.{kept}
use Rattle.vcd_signals.specs.Signals.{Sight}
use Rattle.vcd_check.specs.Departure.{AreCycles, Watched, steps_to}

-- ---- marks

abbrev pub is_marked : List Bool → ℕ → Bool
is_marked marks i = slice_index_or marks i false

-- marks are at some of so many signals
pub record AreMarks (n : ℕ) (signals : List ℕ) (marks : List Bool) : Type 0 where
  pub count : length marks ≡ n
  pub each : (i : ℕ) → is_marked marks i ≡ true ↔ (i < n) × Among signals i

-- ---- the first number

-- the first number below a limit that is asked for and fails
pub record IsFirst (asked fails : ℕ → Bool) (n s : ℕ) : Type 0 where
  pub below : s < n
  pub asked_is : asked s ≡ true
  pub fails_is : fails s ≡ true
  pub before : (i : ℕ) → i < s → asked i ≡ true → fails i ≡ false

-- none does
abbrev pub AreNone : (ℕ → Bool) → (ℕ → Bool) → ℕ → Type 0
AreNone asked fails n = (i : ℕ) → i < n → asked i ≡ true → fails i ≡ false

-- ---- what is compared

abbrev pub is_output : Option Signal → Bool
is_output None = false
is_output (Some signal) = signal.top_output

abbrev pub is_compared : Flat → List Bool → ℕ → Bool
is_compared d stored i = is_output (slice_get d.signals i) || is_marked stored i

-- whether a value is recorded that isn't a number
abbrev pub differs_from : Option (List Bit) → List Bit → Bool
differs_from None number = false
differs_from (Some bits) number = not (are_same bits number)

-- what is kept now
abbrev pub seen : Recorder → Sight
seen recorder = record { time = 0; value = kept recorder }

-- ---- steps

-- a known value of its width for a top input, other than its number
pub record IsFine (d : Flat) (n : Values) (setting : Setting) : Type 0 where
  pub input : IsTrue (is_input d setting.input)
  pub wide : length setting.number ≡ widths d setting.input
  pub known : has_unknown setting.number ≡ false
  pub other : setting.number ≢ n setting.input

-- the step that sets data inputs, if there are some
abbrev pub data_steps : List Setting → List Step
data_steps [] = []
data_steps (one ∷ others) = Data (one ∷ others) ∷ []

-- the numbers are those behind the steps up to a time, or there are no such steps
abbrev pub Follows : Flat → Watched → Values → Sight → Bool → Values → Type 0
Follows d watched old sight true new = (steps : List Step) × (steps_to watched old sight ≡ Some steps) × AreCycles d steps old new
Follows d watched old sight false new = steps_to watched old sight ≡ None

-- ---- netlists

-- the netlist of a design with fill 0
pub record IsNetlistOf (design : Design) (netlist : Netlist) : Type 0 where
  pub design_is : netlist.design.now ≡ design
  pub fill_is : netlist.fill ≡ ZeroFill

-- what a contract sees of a basis
abbrev pub watched_of : Basis → Watched
watched_of basis = record {
  stored = places basis.holders.items;
  tops = places basis.tops.items;
  is_control = is_marked basis.controls.items;
}

-- the numbers behind some steps, or there are none
abbrev pub Takes : Flat → Option (List Step) → Values → Bool → Values → Type 0
Takes d reading old true new = (steps : List Step) × (reading ≡ Some steps) × AreCycles d steps old new
Takes d reading old false new = reading ≡ None
