-- The words of the commands over the tables.
-- Worked examples: tools/test.
use Rattle.std.specs.Prelude.{ℕ, Bool, ◌&&◌, nat_le, bytes_eq, codes, List, [], ◌∷◌, Option, None, Some, if◌then◌else◌}
use Rattle.desk_numbers.specs.Numbers.{is_positive, number_of}
use Rattle.desk_top.specs.Words.{is_name}
use Rattle.desk_command.specs.declared.words.Command.{Command}
use Rattle.desk_command.specs.declared.words.Command.TheVariants as code

-- a command over the tables: `report TOP`, or `serve PORT COUNT`
pub data Order : Type 0 where
  Report : (top : List ℕ) → Order
  Serve : (port count : ℕ) → Order

-- a number from 1 to a greatest one, without leading zeros
abbrev pub is_up_to : ℕ → List ℕ → Bool
is_up_to most word = is_positive word && nat_le (number_of word) most

abbrev pub is_port : List ℕ → Bool
is_port word = is_up_to 65535 word

abbrev pub is_count : List ℕ → Bool
is_count word = is_up_to 1000000 word

abbrev pub report_order : List (List ℕ) → Option Order
report_order [] = None
report_order (top ∷ []) = if is_name top then Some (Report top) else None
report_order (top ∷ more ∷ others) = None

abbrev pub serve_order : List (List ℕ) → Option Order
serve_order [] = None
serve_order (port ∷ []) = None
serve_order (port ∷ count ∷ []) =
    if is_port port && is_count count then Some (Serve (number_of port) (number_of count)) else None
serve_order (port ∷ count ∷ more ∷ others) = None

-- the command over the tables that the words are, if they are one
abbrev pub order : List (List ℕ) → Option Order
order [] = None
order (name ∷ rest) =
    if bytes_eq name (codes "report") then report_order rest
    else if bytes_eq name (codes "serve") then serve_order rest
    else None

-- what the code's command means
abbrev pub order_of : Command → Order
order_of (code.Report top) = Report top.now
order_of (code.Serve port count) = Serve port count
