-- Numbers in decimal digits.
-- Worked examples: crates/desk_numbers/proofs/Example.antt.
use Rattle.std.specs.Prelude.{ℕ, ◌+◌, ◌-◌, ◌*◌, Bool, false, ◌&&◌, ◌||◌, ◌==◌, not, List, [], ◌∷◌, length, if◌then◌else◌}
use Rattle.std.specs.List.{list_all}
use Rattle.std.specs.Char.{is_ascii_digit}

-- one digit or more, and nothing else
abbrev pub is_number : List ℕ → Bool
is_number text = not (length text == 0) && list_all is_ascii_digit text

-- the number that digits write behind those of a number
abbrev pub number_behind : ℕ → List ℕ → ℕ
number_behind number [] = number
number_behind number (digit ∷ digits) = number_behind (number * 10 + (digit - 48)) digits

-- the number that digits write
abbrev pub number_of : List ℕ → ℕ
number_of digits = number_behind 0 digits

-- the digits behind leading zeros: two numbers are equal where these are
abbrev pub significant : List ℕ → List ℕ
significant [] = []
significant (digit ∷ digits) = if digit == 48 then significant digits else digit ∷ digits

abbrev pub opens_with_zero : List ℕ → Bool
opens_with_zero [] = false
opens_with_zero (digit ∷ digits) = digit == 48

-- a number from 1, without leading zeros
abbrev pub is_positive : List ℕ → Bool
is_positive text = is_number text && not (opens_with_zero text)

-- a number from 0, without leading zeros
abbrev pub is_plain : List ℕ → Bool
is_plain text = is_number text && (length text == 1 || not (opens_with_zero text))
