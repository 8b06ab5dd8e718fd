-- Values as they are written: a width, a base and digits (IEEE 1364-2001 section 2.5.1).
-- Worked examples: proofs/Examples.antt, crates/tests_parts/stdin.
use Rattle.std.specs.Prelude.{ℕ, ◌+◌, nat_lt, not, ◌&&◌, if◌then◌else◌, List, [], ◌∷◌, ◌++◌, length, map, reverse, codes}
use Rattle.std.specs.Fmt.{decimal}
use Rattle.rtl_bits.specs.declared.Bit.{Bit}
use Rattle.rtl_bits.specs.declared.Bit.TheVariants.{Zero, One, X, Z}
use Rattle.rtl_bits.specs.Bits.{has_unknown, number}

-- a bit as a digit
abbrev pub digit_of : Bit → ℕ
digit_of Zero = 48
digit_of One = 49
digit_of X = 120
digit_of Z = 122

-- digits in base 2, the least significant first
abbrev pub binary_digits : List Bit → List ℕ
binary_digits bits = map digit_of bits

-- a number below 16 as a digit
abbrev pub hex_digit : ℕ → ℕ
hex_digit n = if nat_lt n 10 then 48 + n else 87 + n

-- digits of known bits in base 16, the least significant first: one for each four bits, and one for what is left
abbrev pub hex_digits : List Bit → List ℕ
hex_digits [] = []
hex_digits (a ∷ []) = hex_digit (number (a ∷ [])) ∷ []
hex_digits (a ∷ b ∷ []) = hex_digit (number (a ∷ b ∷ [])) ∷ []
hex_digits (a ∷ b ∷ c ∷ []) = hex_digit (number (a ∷ b ∷ c ∷ [])) ∷ []
hex_digits (a ∷ b ∷ c ∷ d ∷ bits) = hex_digit (number (a ∷ b ∷ c ∷ d ∷ [])) ∷ hex_digits bits

-- the base and the digits: `'b` and the bits; or `'h` and digits in base 16 where there are more than 16 bits, all known
abbrev pub digits_text : List Bit → List ℕ
digits_text bits =
    if nat_lt 16 (length bits) && not (has_unknown bits)
    then codes "'h" ++ reverse (hex_digits bits)
    else codes "'b" ++ reverse (binary_digits bits)

-- a value: its width, a base and digits
abbrev pub value_text : List Bit → List ℕ
value_text bits = decimal (length bits) ++ digits_text bits
