-- It serves inner contracts and proofs; no answer of the program is stated by it.
-- How the first variable of each signal is found.
use Rattle.std.specs.Prelude.{◌≡◌, ℕ, if◌then◌else◌, List, [], ◌∷◌, ◌++◌, length, Option, None, Some}
use Rattle.std.specs.List.{slice_get}
use Rattle.std.specs.Str.{bytes_eq}
use Rattle.name_map.specs.Values.{Values}
use Rattle.rtl_flat.specs.declared.signal.Signal.{Signal}
use Rattle.vcd_read.specs.declared.dump.Entry.{Entry}
use Rattle.vcd_read.specs.declared.dump.Entry.TheVariants.{Scope, Upscope, Variable as VariableEntry}
use Rattle.vcd_read.specs.Frames.{Variable, outside, variable_in}
use Rattle.vcd_signals.specs.declared.keys.Walk.{Walk}
use Rattle.vcd_signals.specs.Signals.{path_in}

-- a path with a width
abbrev pub key : List ℕ → ℕ → List ℕ
key path width = path ++ width ∷ []

abbrev pub variable_key : Variable → List ℕ
variable_key variable = key variable.path variable.width

abbrev pub signal_key : List ℕ → Signal → List ℕ
signal_key scope signal = key (path_in scope signal) signal.width

-- the code of the first variable with a key
abbrev pub first_code : List ℕ → List Variable → Option ℕ
first_code wanted [] = None
first_code wanted (variable ∷ variables) =
    if bytes_eq (variable_key variable) wanted then Some variable.code else first_code wanted variables

-- what is known of a key that may be wanted, where one more variable has it
abbrev pub entered : Option (Option ℕ) → ℕ → Option (Option ℕ)
entered None code = None
entered (Some None) code = Some (Some code)
entered (Some (Some first)) code = Some (Some first)

-- what is known of a key behind variables
abbrev pub known_behind : List ℕ → List Variable → Option (Option ℕ) → Option (Option ℕ)
known_behind wanted [] known = known
known_behind wanted (variable ∷ variables) known =
    known_behind wanted variables
    (if bytes_eq (variable_key variable) wanted then entered known variable.code else known)

-- ---- scopes

-- what every path in scopes begins with, the innermost scope first
abbrev pub prefix : List (List ℕ) → List ℕ
prefix [] = []
prefix (scope ∷ outer) = prefix outer ++ (scope ++ 46 ∷ [])

-- where what each scope adds to it begins
abbrev pub ends : List (List ℕ) → List ℕ
ends [] = []
ends (scope ∷ outer) = ends outer ++ length (prefix outer) ∷ []

-- the scopes behind an entry, and the variables that it declares
abbrev pub scopes_behind : List (List ℕ) → Entry → List (List ℕ)
scopes_behind scopes (Scope name) = name ∷ scopes
scopes_behind scopes Upscope = outside scopes
scopes_behind scopes (VariableEntry variable) = scopes

abbrev pub declared_by : List (List ℕ) → Entry → List Variable
declared_by scopes (Scope name) = []
declared_by scopes Upscope = []
declared_by scopes (VariableEntry variable) = variable_in scopes variable ∷ []

-- a walk over entries is in scopes
pub record IsIn (scopes : List (List ℕ)) (walk : Walk) : Type 0 where
  pub prefix_is : walk.prefix.items ≡ prefix scopes
  pub ends_are : walk.ends.items ≡ ends scopes

-- ---- all signals

-- no variable of a signal is known
abbrev pub AreWanted : List ℕ → List Signal → Values (Option ℕ) → Type 0
AreWanted scope signals known =
    (i : ℕ) (signal : Signal) → slice_get signals i ≡ Some signal → known (signal_key scope signal) ≡ Some None

-- of each signal the first of some variables is known
abbrev pub AreFirst : List ℕ → List Signal → List Variable → Values (Option ℕ) → Type 0
AreFirst scope signals variables known =
    (i : ℕ) (signal : Signal) → slice_get signals i ≡ Some signal →
    known (signal_key scope signal) ≡ Some (first_code (signal_key scope signal) variables)
