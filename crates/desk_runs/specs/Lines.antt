-- The lines that a simulator writes, one a step. Every line ends with a line feed.
-- Worked examples: crates/tests_rows/stdin.
use Rattle.std.specs.Prelude.{ℕ, ◌+◌, if◌then◌else◌, List, [], ◌∷◌, ◌++◌, codes}
use Rattle.std.specs.Fmt.{decimal}
use Rattle.rtl_bits.specs.declared.Bit.{Bit}
use Rattle.rtl_flat.specs.declared.instance.Instance.{Instance}
use Rattle.rtl_flat.specs.declared.signal.Signal.{Signal}
use Rattle.event_model.specs.Writes.{Values}
use Rattle.desk_report.specs.Values.{value_text}
use Rattle.desk_steps.specs.Names.{top_name}

abbrev pub number_text : ℕ → List ℕ
number_text number = codes "step " ++ decimal number

-- an output and its value
abbrev pub output_text : List ℕ → List Bit → List ℕ
output_text name bits = codes " " ++ name ++ codes "=" ++ value_text bits

-- of a signal with a number, if it is an output of the top
abbrev pub signal_text : List Instance → Values → ℕ → Signal → List ℕ
signal_text instances v number signal =
    if signal.top_output then output_text (top_name instances signal) (v number) else []

-- of all outputs among signals, which are numbered from a number on
abbrev pub outputs_text : List Instance → Values → ℕ → List Signal → List ℕ
outputs_text instances v number [] = []
outputs_text instances v number (first ∷ others) =
    signal_text instances v number first ++ outputs_text instances v (number + 1) others

-- a step that came to rest
abbrev pub rested_line : List Instance → List Signal → ℕ → Values → List ℕ
rested_line instances signals number v =
    number_text number ++ outputs_text instances v 0 signals ++ 10 ∷ []

-- a step that didn't
abbrev pub unsettled_line : ℕ → List ℕ
unsettled_line number = number_text number ++ codes " unsettled" ++ 10 ∷ []
