-- The codes that stand for variables (IEEE 1364-2001 section 18.2.2).
-- Worked examples: crates/vcd_read/proofs/Examples.antt.
use Rattle.std.specs.Prelude.{ℕ, ◌==◌, nat_lt, ◌||◌, if◌then◌else◌, List, Option, None, Some}
use Rattle.std.specs.BTreeMap.{get_by}
use Rattle.std.specs.Cmp.Lexicographic.{slice_cmp}
use Rattle.std.specs.Ordering.{nat_cmp}
use Rattle.std.specs.Str.{bytes_eq}
use Rattle.vcd_read.specs.declared.codes.Code.{Code}
use Rattle.vcd_read.specs.declared.codes.Codes.{Codes as Kept}

-- what is known of each code
abbrev pub Codes : Type 0
Codes = List ℕ → Option Code

-- no code is declared
abbrev pub no_codes : Codes
no_codes text = None

-- the same, but that one code is known so
abbrev pub named : Codes → List ℕ → Code → Codes
named known text code = λ other. if bytes_eq text other then Some code else known other

-- the least of two widths, where 0 is none
abbrev pub shared : ℕ → ℕ → ℕ
shared first second =
    if first == 0 then second else if second == 0 || nat_lt first second then first else second

-- a code with one more variable of a width, which is 0 where the variable is skipped: its number is how many
-- variables are declared up to the first that has the code
abbrev pub noted : Option Code → ℕ → ℕ → Code
noted None number width = record { number = number; width = width }
noted (Some code) number width = record { number = code.number; width = shared code.width width }

-- what the code's map holds
unfoldable pub codes_of : Kept → Codes
codes_of kept = λ text. get_by (λ key. slice_cmp nat_cmp text key.items) kept.known
