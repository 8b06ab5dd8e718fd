-- Decimal numbers within 64 bits.
-- Worked examples: crates/vcd_read/proofs/Examples.antt.
use Rattle.std.specs.Prelude.{ℕ, ◌+◌, ◌-◌, ◌*◌, nat_lt, ◌&&◌, if◌then◌else◌, List, [], ◌∷◌, Option, None, Some}
use Rattle.std.specs.Char.{is_ascii_digit}

-- the number that digits write behind those of a number; none of 2 to the 64 or more, nor where one is no digit
abbrev pub number_behind : ℕ → List ℕ → Option ℕ
number_behind number [] = Some number
number_behind number (digit ∷ digits) =
    if is_ascii_digit digit && nat_lt (number * 10 + (digit - 48)) 18446744073709551616
    then number_behind (number * 10 + (digit - 48)) digits
    else None

-- the number that one digit or more write
abbrev pub number_of : List ℕ → Option ℕ
number_of [] = None
number_of (digit ∷ digits) = number_behind 0 (digit ∷ digits)
