-- It serves inner contracts and proofs; no answer of the program is stated by it.
-- What is kept of the signals of a design behind some changes of a dump.
use Rattle.std.specs.Prelude.{◌≡◌, ◌<◌, ◌≤◌, ℕ, zero, suc, Bool, true, false, ◌==◌, if◌then◌else◌, List, [], ◌∷◌, length, map, take, drop, Option, None, Some, Vec}
use Rattle.std.specs.List.{list_any, slice_get}
use Rattle.std.specs.declared.alloc.Global.{Global}
use Rattle.rtl_bits.specs.declared.Bit.{Bit}
use Rattle.rtl_flat.specs.declared.expr.SigId.{SigId}
use Rattle.rtl_flat.specs.declared.signal.Signal.{Signal}
use Rattle.rtl_flat.specs.Flats.{Flat, flat, widths}
use Rattle.rtl_flat.specs.Value.{store}
use Rattle.vcd_read.specs.Filling.{filled}
use Rattle.vcd_read.specs.Frames.{Variable, Written, value, variables, written, written_over}
use Rattle.vcd_read.specs.Reading.{Dump, dump_of}
use Rattle.vcd_signals.specs.declared.recorder.Recorder.{Recorder}
use Rattle.vcd_signals.specs.Keys.{first_code, signal_key}
use Rattle.vcd_signals.specs.Signals.{Sight, sights}

-- ---- who follows a code

-- the signals in the row of a code
abbrev pub row : List (Vec SigId Global) → ℕ → List SigId
row [] code = []
row (signals ∷ table) zero = signals.items
row (signals ∷ table) (suc code) = row table code

abbrev pub has : List SigId → ℕ → Bool
has signals i = list_any (λ (signal : SigId). signal.0 == i) signals

-- each signal below a number is in the row of its code
abbrev pub AreFollowed : List (Vec SigId Global) → List (Option ℕ) → ℕ → Type 0
AreFollowed table codes n =
    (i code : ℕ) → i < n → slice_get codes i ≡ Some (Some code) → has (row table code) i ≡ true

-- ---- a change

-- whether a signal has a code
abbrev pub is_code : Option (Option ℕ) → ℕ → Bool
is_code None other = false
is_code (Some None) other = false
is_code (Some (Some code)) other = code == other

-- the value of a signal with a code, if it has one, behind a change
abbrev pub value_after : Option (Option ℕ) → ℕ → Written → List Bit → List Bit
value_after own width change value =
    if is_code own change.code then written_over value (filled width change.bits) else value

-- ---- all that is kept

abbrev pub flat_of : Recorder → Flat
flat_of recorder = flat recorder.design.now

abbrev pub text_of : Recorder → Dump
text_of recorder = dump_of recorder.dump.now

abbrev pub changes_of : Recorder → List Written
changes_of recorder = written (text_of recorder).bits (text_of recorder).changes

abbrev pub sights_of : Recorder → List Sight
sights_of recorder = sights (flat_of recorder) recorder.scope.now (text_of recorder)

-- a variable with a width and a code
abbrev pub variable_with : ℕ → ℕ → Variable
variable_with width code = record { path = []; width = width; code = code }

-- the codes of signals, the signals of codes, and the values of signals behind so many changes
pub record IsRecorder (recorder : Recorder) : Type 0 where
  pub codes_are :
      recorder.codes.items
      ≡ map (λ (signal : Signal). first_code (signal_key recorder.scope.now signal) (variables (text_of recorder)))
      recorder.design.now.signals.items
  pub followed : AreFollowed recorder.followers.items recorder.codes.items (length recorder.codes.items)
  pub count : length recorder.values.items ≡ length recorder.design.now.signals.items
  pub inside : recorder.applied ≤ length recorder.dump.now.changes.items
  pub rest_is :
      written recorder.rest.now (drop recorder.applied recorder.dump.now.changes.items)
      ≡ drop recorder.applied (changes_of recorder)
  pub values_are :
      (i code : ℕ) → slice_get recorder.codes.items i ≡ Some (Some code) →
      store recorder.values.items i
      ≡ value (take recorder.applied (changes_of recorder)) (variable_with (widths (flat_of recorder) i) code)

-- what is kept of a signal, if it has a code
abbrev pub kept_with : Option (Option ℕ) → List Bit → Option (List Bit)
kept_with None bits = None
kept_with (Some None) bits = None
kept_with (Some (Some code)) bits = Some bits

abbrev pub kept : Recorder → ℕ → Option (List Bit)
kept recorder i = kept_with (slice_get recorder.codes.items i) (store recorder.values.items i)

-- the values that are kept are those at a time
pub record IsAt (recorder : Recorder) (sight : Sight) : Type 0 where
  pub is_recorder : IsRecorder recorder
  pub values : (i : ℕ) → kept recorder i ≡ sight.value i

-- another time of the same dump
pub record IsSame (old new : Recorder) : Type 0 where
  pub design : new.design.now ≡ old.design.now
  pub scope : new.scope.now ≡ old.scope.now
  pub text : new.dump.now ≡ old.dump.now
