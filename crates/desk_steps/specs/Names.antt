-- The top inputs of a design by their names.
-- Worked examples: crates/tests_parts/stdin.
use Rattle.std.specs.Prelude.{ℕ, ◌+◌, if◌then◌else◌, List, [], ◌∷◌, drop, length, Option, None, Some}
use Rattle.std.specs.BTreeMap.{get_by}
use Rattle.std.specs.Cmp.Lexicographic.{slice_cmp}
use Rattle.std.specs.Ordering.{nat_cmp}
use Rattle.std.specs.Str.{bytes_eq}
use Rattle.rtl_flat.specs.declared.design.Design.{Design}
use Rattle.rtl_flat.specs.declared.instance.Instance.{Instance}
use Rattle.rtl_flat.specs.declared.signal.Signal.{Signal}
use Rattle.event_model.specs.Queue.{is_input_kind}
use Rattle.desk_steps.specs.declared.names.Input.{Input}
use Rattle.desk_steps.specs.declared.names.Names.{Names as Kept}

-- the input with a name
abbrev pub Names : Type 0
Names = List ℕ → Option Input

abbrev pub no_names : Names
no_names name = None

abbrev pub named : Names → List ℕ → Input → Names
named names name input = λ other. if bytes_eq name other then Some input else names other

-- how many bytes of a path come before the name of a signal of the top: its instance's path and a dot
abbrev pub ahead : List Instance → ℕ
ahead [] = 0
ahead (top ∷ others) = length top.path + 1

-- the name of a signal of the top
abbrev pub top_name : List Instance → Signal → List ℕ
top_name instances signal = drop (ahead instances) signal.path

abbrev pub input_of : ℕ → Signal → Input
input_of number signal = record { signal = record { 0 = number }; width = signal.width }

abbrev pub with_signal : ℕ → ℕ → Signal → Names → Names
with_signal skipped number signal names =
    if is_input_kind signal.kind then named names (drop skipped signal.path) (input_of number signal) else names

-- the inputs among signals, which are numbered from a number on; of two with one name the first counts
abbrev pub names_from : ℕ → ℕ → List Signal → Names
names_from skipped number [] = no_names
names_from skipped number (first ∷ others) =
    with_signal skipped number first (names_from skipped (number + 1) others)

-- the inputs of a design's top
abbrev pub inputs_of : Design → Names
inputs_of design = names_from (ahead design.instances.items) 0 design.signals.items

-- what the code's map holds
abbrev pub names_of : Kept → Names
names_of kept = λ name. get_by (λ key. slice_cmp nat_cmp name key.items) kept.inputs
