-- What a dump says of its variables: their paths, and their values at each time (IEEE 1364-2001 sections 18.2.1 and 18.2.3).
-- Worked examples: crates/vcd_read/proofs/Examples.antt.
use Rattle.std.specs.Prelude.{ℕ, ◌==◌, if◌then◌else◌, List, [], ◌∷◌, ◌++◌, length, take, drop, replicate, map, Option, None, Some}
use Rattle.rtl_bits.specs.declared.Bit.{Bit}
use Rattle.rtl_bits.specs.declared.Bit.TheVariants.{X}
use Rattle.vcd_read.specs.declared.dump.Change.{Change}
use Rattle.vcd_read.specs.declared.dump.Entry.{Entry}
use Rattle.vcd_read.specs.declared.dump.Entry.TheVariants.{Scope, Upscope, Variable as VariableEntry}
use Rattle.vcd_read.specs.declared.dump.Frame.{Frame}
use Rattle.vcd_read.specs.declared.dump.Variable.{Variable as Declared}
use Rattle.vcd_read.specs.Filling.{filled}
use Rattle.vcd_read.specs.Reading.{Dump}

-- ---- variables

-- a variable by its path: the names of its scopes and its own, with a dot between two of them
pub record Variable : Type 0 where
  pub path : List ℕ
  pub width : ℕ
  pub code : ℕ

-- a name in scopes, the innermost first
abbrev pub path_in : List (List ℕ) → List ℕ → List ℕ
path_in [] name = name
path_in (scope ∷ outer) name = path_in outer (scope ++ 46 ∷ name)

-- the scopes around the innermost
abbrev pub outside : List (List ℕ) → List (List ℕ)
outside [] = []
outside (scope ∷ outer) = outer

-- a variable that is declared in scopes
abbrev pub variable_in : List (List ℕ) → Declared → Variable
variable_in scopes variable =
    record { path = path_in scopes variable.name; width = variable.width; code = variable.code }

-- the variables of what is declared in scopes, the innermost first
abbrev pub variables_in : List (List ℕ) → List Entry → List Variable
variables_in scopes [] = []
variables_in scopes (Scope name ∷ entries) = variables_in (name ∷ scopes) entries
variables_in scopes (Upscope ∷ entries) = variables_in (outside scopes) entries
variables_in scopes (VariableEntry variable ∷ entries) =
    variable_in scopes variable ∷ variables_in scopes entries

-- the variables of a dump, in order
abbrev pub variables : Dump → List Variable
variables dump = variables_in [] dump.entries

-- ---- values

-- a code, and the bits that are written to it
pub record Written : Type 0 where
  pub code : ℕ
  pub bits : List Bit

-- the changes with the bits of each
abbrev pub written : List Bit → List Change → List Written
written bits [] = []
written bits (change ∷ changes) =
    record { code = change.code; bits = take change.bits bits } ∷ written (drop change.bits bits) changes

-- a value that is written, or the one before where that can't be one
abbrev pub written_over : List Bit → Option (List Bit) → List Bit
written_over value None = value
written_over value (Some bits) = bits

-- the value that a variable has behind changes, where it had one before them
abbrev pub value_behind : Variable → List Bit → List Written → List Bit
value_behind variable value [] = value
value_behind variable value (change ∷ changes) =
    value_behind variable
    (if change.code == variable.code then written_over value (filled variable.width change.bits) else value)
    changes

-- the value behind changes: at first each bit is x
abbrev pub value : List Written → Variable → List Bit
value changes variable = value_behind variable (replicate variable.width X) changes

-- ---- frames

-- a time, and the values of all variables when it is over, each from the least significant bit on
pub record Values : Type 0 where
  pub time : ℕ
  pub values : List (List Bit)

-- how many changes stand before the next time
abbrev pub until : ℕ → List Frame → ℕ
until all [] = all
until all (frame ∷ frames) = frame.before

-- the values at times, each behind the changes up to the next time
abbrev pub values_at : List Variable → List Written → List Frame → List Values
values_at variables changes [] = []
values_at variables changes (frame ∷ frames) =
    record { time = frame.time; values = map (value (take (until (length changes) frames) changes)) variables }
    ∷ values_at variables changes frames

-- the frames of a dump, one for each time
abbrev pub frames : Dump → List Values
frames dump = values_at (variables dump) (written dump.bits dump.changes) dump.frames
