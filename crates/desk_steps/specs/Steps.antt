-- The steps of a file: which inputs each sets, and to what.
-- Worked examples: crates/tests_parts/stdin.
use Rattle.std.specs.Prelude.{ℕ, ◌+◌, ◌==◌, nat_lt, Bool, cond, if◌then◌else◌, List, [], ◌∷◌, ◌++◌, Option, None, Some, Result, Ok, Err, codes, map, Vec}
use Rattle.std.specs.List.{list_any}
use Rattle.std.specs.Str.{bytes_eq}
use Rattle.std.specs.declared.alloc.Global.{Global}
use Rattle.rtl_bits.specs.declared.Bit.{Bit}
use Rattle.event_model.specs.declared.policy.Policy.{Policy}
use Rattle.event_model.specs.declared.policy.Policy.TheVariants.{Level, Ascending, Descending}
use Rattle.desk_steps.specs.declared.names.Input.{Input}
use Rattle.event_model.specs.declared.setting.Setting.{Setting as Kept}
use Rattle.desk_steps.specs.declared.file.Steps.{Steps as Read}
use Rattle.desk_steps.specs.Lines.{Cut, cut_at, lines, parts}
use Rattle.desk_steps.specs.Names.{Names}
use Rattle.desk_steps.specs.Values.{and_then, value_bits}

-- an input, and the value that it is set to
pub record Setting : Type 0 where
  pub signal : ℕ
  pub bits : List Bit

-- whether an input is among those that are set
abbrev pub is_set : ℕ → List Setting → Bool
is_set signal settings = list_any (λ setting. setting.signal == signal) settings

-- an input is set once at most
abbrev pub set_once : List Setting → ℕ → Option (List Bit) → Option Setting
set_once earlier signal None = None
set_once earlier signal (Some bits) =
    if is_set signal earlier then None else Some (record { signal = signal; bits = bits })

abbrev pub set_signal : List Setting → List ℕ → Option Input → Option Setting
set_signal earlier value None = None
set_signal earlier value (Some input) = set_once earlier input.signal.0 (value_bits input.width value)

abbrev pub cut_setting : Names → List Setting → Option Cut → Option Setting
cut_setting names earlier None = None
cut_setting names earlier (Some cut) = set_signal earlier cut.behind (names cut.before)

-- `NAME=VALUE`, where some inputs are set already
abbrev pub setting_of : Names → List Setting → List ℕ → Option Setting
setting_of names earlier text = cut_setting names earlier (cut_at 61 text)

-- settings, one after the other
abbrev pub settings_of : Names → List Setting → List (List ℕ) → Option (List Setting)
settings_of names earlier [] = Some earlier
settings_of names earlier (first ∷ others) =
    and_then (setting_of names earlier first) (λ setting. settings_of names (earlier ++ setting ∷ []) others)

-- what is behind a text at the begin of another
abbrev pub behind : List ℕ → List ℕ → Option (List ℕ)
behind [] text = Some text
behind (first ∷ others) [] = None
behind (first ∷ others) (byte ∷ text) = cond (byte == first) (behind others text) None

-- a line that sets inputs, with one space between two of them
abbrev pub step_of : Names → List ℕ → Option (List Setting)
step_of names line = and_then (behind (codes "set ") line) (λ text. settings_of names [] (parts 32 text))

abbrev pub with_step : ℕ → Option (List Setting) → Result (List (List Setting)) ℕ → Result (List (List Setting)) ℕ
with_step number None others = Err number
with_step number (Some step) (Err later) = Err later
with_step number (Some step) (Ok steps) = Ok (step ∷ steps)

-- the steps of lines, behind so many others: there are 10,000 lines at most. An error is the number of the first line
-- that is no step
abbrev pub steps_from : Names → ℕ → List (List ℕ) → Result (List (List Setting)) ℕ
steps_from names before [] = Ok []
steps_from names before (line ∷ others) =
    if nat_lt before 10000
    then with_step (before + 1) (step_of names line) (steps_from names (before + 1) others)
    else Err (before + 1)

-- the order that a line asks for
abbrev pub policy_of : List ℕ → Option Policy
policy_of line =
    if bytes_eq line (codes "policy level") then Some Level
    else if bytes_eq line (codes "policy ascending") then Some Ascending
    else if bytes_eq line (codes "policy descending") then Some Descending
    else None

-- the order, and the steps
pub record Steps : Type 0 where
  pub policy : Policy
  pub steps : List (List Setting)

abbrev pub under : Policy → Result (List (List Setting)) ℕ → Result Steps ℕ
under policy (Err number) = Err number
under policy (Ok steps) = Ok (record { policy = policy; steps = steps })

abbrev pub file_with : Names → List (List ℕ) → Option Policy → List (List ℕ) → Result Steps ℕ
file_with names all None others = under Level (steps_from names 0 all)
file_with names all (Some policy) others = under policy (steps_from names 1 others)

-- a file of steps: its first line may ask for an order
abbrev pub file_lines : Names → List (List ℕ) → Result Steps ℕ
file_lines names [] = Ok (record { policy = Level; steps = [] })
file_lines names (first ∷ others) =
    file_with names (first ∷ others) (policy_of first) others

abbrev pub file_of : Names → List ℕ → Result Steps ℕ
file_of names text = file_lines names (lines text)

-- what the code keeps
abbrev pub setting : Kept → Setting
setting kept = record { signal = kept.signal.0; bits = kept.value }

abbrev pub step : Vec Kept Global → List Setting
step kept = map setting kept.items

abbrev pub steps : Read → Steps
steps read = record { policy = read.policy; steps = map step read.steps.items }
