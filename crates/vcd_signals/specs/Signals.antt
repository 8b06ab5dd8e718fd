-- What a dump records of the signals of a design (IEEE 1364-2001 section 18.2.3).
-- Worked examples: crates/vcd_signals/proofs/Examples.antt.
use Rattle.std.specs.Prelude.{ℕ, ◌==◌, Bool, false, ◌&&◌, if◌then◌else◌, List, [], ◌∷◌, ◌++◌, map, Option, None, Some}
use Rattle.std.specs.List.{list_any, slice_get}
use Rattle.std.specs.Str.{bytes_eq}
use Rattle.rtl_bits.specs.declared.Bit.{Bit}
use Rattle.rtl_flat.specs.declared.signal.Signal.{Signal}
use Rattle.rtl_flat.specs.Flats.{Flat}
use Rattle.vcd_read.specs.Frames as dump
use Rattle.vcd_read.specs.Frames.{Variable, frames, variables}
use Rattle.vcd_read.specs.Reading.{Dump}

-- ---- which variable records a signal

-- a path below the top: without the name of the top
abbrev pub below : List ℕ → List ℕ
below [] = []
below (byte ∷ path) = if byte == 46 then path else below path

-- the path of a signal in a dump that has the top in a scope, which is given by the names on the way to it, with dots
-- between them
abbrev pub path_in : List ℕ → Signal → List ℕ
path_in scope signal = scope ++ 46 ∷ below signal.path

-- whether a variable records a signal: it has its path and its width
abbrev pub records : List ℕ → Signal → Variable → Bool
records scope signal variable = bytes_eq variable.path (path_in scope signal) && (variable.width == signal.width)

-- whether some variable does
abbrev pub is_recorded_as : List ℕ → List Variable → Option Signal → Bool
is_recorded_as scope variables None = false
is_recorded_as scope variables (Some signal) = list_any (records scope signal) variables

abbrev pub is_recorded : Flat → List ℕ → Dump → ℕ → Bool
is_recorded d scope text i = is_recorded_as scope (variables text) (slice_get d.signals i)

-- ---- what is recorded

-- what a dump tells of signals at a time: the value of each that is recorded, from the least significant bit on
pub record Sight : Type 0 where
  pub time : ℕ
  pub value : ℕ → Option (List Bit)

-- the value of the first variable of which a test holds, where these are the values of variables
abbrev pub first_value : (Variable → Bool) → List Variable → List (List Bit) → Option (List Bit)
first_value test [] values = None
first_value test (variable ∷ variables) [] = None
first_value test (variable ∷ variables) (value ∷ values) =
    if test variable then Some value else first_value test variables values

-- the value of a signal: that of the first variable that records it
abbrev pub value_as : List ℕ → List Variable → List (List Bit) → Option Signal → Option (List Bit)
value_as scope variables values None = None
value_as scope variables values (Some signal) = first_value (records scope signal) variables values

abbrev pub sight_of : Flat → List ℕ → List Variable → dump.Values → Sight
sight_of d scope variables frame =
    record { time = frame.time; value = λ i. value_as scope variables frame.values (slice_get d.signals i) }

-- what a dump tells at each of its times
abbrev pub sights : Flat → List ℕ → Dump → List Sight
sights d scope text = map (sight_of d scope (variables text)) (frames text)
