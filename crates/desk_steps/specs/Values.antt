-- The values that inputs are set to, as numbers with a width and base 2 or 16 (IEEE 1364-2001 section 2.5.1).
-- Worked examples: crates/tests_parts/stdin.
use Rattle.std.specs.Prelude.{ℕ, ◌+◌, ◌-◌, ◌/◌, ◌==◌, nat_lt, cond, ◌&&◌, if◌then◌else◌, List, [], ◌∷◌, ◌++◌, length, replicate, take, Option, None, Some}
use Rattle.std.specs.Fmt.{decimal}
use Rattle.std.specs.Str.{bytes_eq}
use Rattle.rtl_bits.specs.declared.Bit.{Bit}
use Rattle.rtl_bits.specs.declared.Bit.TheVariants.{X, Z}
use Rattle.rtl_bits.specs.Bits.{bits_of}
use Rattle.desk_steps.specs.declared.value.Base.{Base}
use Rattle.desk_steps.specs.declared.value.Base.TheVariants.{Binary, Hexadecimal}
use Rattle.desk_steps.specs.Lines.{Cut, cut_at}

-- how many bits a digit stands for
abbrev pub digit_width : Base → ℕ
digit_width Binary = 1
digit_width Hexadecimal = 4

-- how many digits a width needs
abbrev pub digits_for : Base → ℕ → ℕ
digits_for Binary width = width
digits_for Hexadecimal width = (width + 3) / 4

-- the number of a digit, in lower case
abbrev pub digit_number : ℕ → Option ℕ
digit_number byte =
    cond (nat_lt byte 48) None
    (cond (nat_lt byte 58) (Some (byte - 48))
    (cond (nat_lt byte 97) None (cond (nat_lt byte 103) (Some (byte - 87)) None)))

abbrev pub known_digit : ℕ → Option ℕ → Option (List Bit)
known_digit width None = None
known_digit width (Some n) = if nat_lt n (cond (width == 1) 2 16) then Some (bits_of width n) else None

-- the bits of a digit; `?` is z
abbrev pub digit_bits : Base → ℕ → Option (List Bit)
digit_bits base byte =
    cond (byte == 120) (Some (replicate (digit_width base) X))
    (cond (byte == 122) (Some (replicate (digit_width base) Z))
    (cond (byte == 63) (Some (replicate (digit_width base) Z))
    (known_digit (digit_width base) (digit_number byte))))

abbrev pub below : List Bit → Option (List Bit) → Option (List Bit)
below high None = None
below high (Some bits) = Some (bits ++ high)

abbrev pub and_then : {A B : Type 0} → Option A → (A → Option B) → Option B
and_then None f = None
and_then (Some a) f = f a

-- the bits of digits behind those that came before
abbrev pub digits_bits : Base → List Bit → List ℕ → Option (List Bit)
digits_bits base high [] = Some high
digits_bits base high (byte ∷ digits) =
    and_then (below high (digit_bits base byte)) (λ bits. digits_bits base bits digits)

-- so many bits at most
abbrev pub cut_to : ℕ → Option (List Bit) → Option (List Bit)
cut_to width None = None
cut_to width (Some bits) = Some (take width bits)

-- exactly the digits that a width needs; bits above it don't count
abbrev pub sized_bits : Base → ℕ → List ℕ → Option (List Bit)
sized_bits base width [] = None
sized_bits base width (byte ∷ digits) =
    if length digits + 1 == digits_for base width
    then cut_to width (and_then (digit_bits base byte) (λ high. digits_bits base high digits))
    else None

-- how many bits digits stand for
abbrev pub digits_width : Base → List ℕ → ℕ
digits_width base [] = 0
digits_width base (byte ∷ digits) = digit_width base + digits_width base digits

-- a base letter and the digits
abbrev pub based_bits : ℕ → List ℕ → Option (List Bit)
based_bits width [] = None
based_bits width (letter ∷ digits) =
    cond (letter == 98) (sized_bits Binary width digits)
    (cond (letter == 104) (sized_bits Hexadecimal width digits) None)

-- a sign may stand before the base, and makes no difference
abbrev pub unsigned : List ℕ → List ℕ
unsigned [] = []
unsigned (byte ∷ text) = cond (byte == 115) text (byte ∷ text)

-- a width may begin with zeros
abbrev pub without_zeros : List ℕ → List ℕ
without_zeros [] = []
without_zeros (byte ∷ text) = cond (byte == 48) (without_zeros text) (byte ∷ text)

abbrev pub cut_bits : ℕ → Option Cut → Option (List Bit)
cut_bits width None = None
cut_bits width (Some cut) =
    if nat_lt width 129 && bytes_eq (without_zeros cut.before) (decimal width)
    then based_bits width (unsigned cut.behind)
    else None

-- the bits of a number of this width: its width, a quote, a base and the digits that the width needs
abbrev pub value_bits : ℕ → List ℕ → Option (List Bit)
value_bits width text = cut_bits width (cut_at 39 text)
