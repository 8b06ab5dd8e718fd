-- The value of a number's text (IEEE 1364-2001 section 2.5.1).
-- Worked examples: crates/tests_layers/stdin.
use Rattle.std.specs.Prelude.{ℕ, ◌+◌, ◌-◌, ◌*◌, ◌%◌, ◌^◌, Bool, true, false, ◌||◌, ◌&&◌, not, if◌then◌else◌, ◌==◌, nat_le, nat_lt, List, [], ◌∷◌, length, drop, take, slice_index, Option, Some, None}
use Rattle.std.specs.List.{prefix_len, list_all}
use Rattle.rtl_tree.specs.declared.literal.Literal.{Literal}
use Rattle.rtl_tree.specs.Lexemes.{is_blank, is_decimal, is_in_decimal, is_x, is_z, is_sign}

abbrev pub is_underscore : ℕ → Bool
is_underscore b = b == 95

abbrev pub is_unknown : ℕ → Bool
is_unknown b = is_x b || is_z b

-- what a digit from `0` to `f` counts
abbrev pub hex_value : ℕ → ℕ
hex_value b = if is_decimal b then b - 48 else if nat_le 97 b then b - 87 else b - 55

-- a digit's part in `val`, or in `unk`: the bits of x are 0 and 1 there, those of z 1 and 1
abbrev pub digit : Bool → ℕ → ℕ → ℕ
digit false radix b = if is_z b then radix - 1 else if is_x b then 0 else hex_value b
digit true radix b = if is_unknown b then radix - 1 else 0

abbrev pub more_digits : Bool → ℕ → ℕ → ℕ → ℕ
more_digits unk radix front b = if is_underscore b then front else front * radix + digit unk radix b

-- the number that digits make behind those in front of them; `_` is none
abbrev pub number : Bool → ℕ → ℕ → List ℕ → ℕ
number unk radix front [] = front
number unk radix front (b ∷ bs) = number unk radix (more_digits unk radix front b) bs

-- whether the leftmost digit passes
abbrev pub leftmost : (ℕ → Bool) → List ℕ → Bool
leftmost p [] = false
leftmost p (b ∷ bs) = if is_underscore b then leftmost p bs else p b

-- what stands to the left of the digits: 128 bits as the leftmost digit has them where it is x or z, else 0
abbrev pub fill : Bool → List ℕ → ℕ
fill false digits = if leftmost is_z digits then 2 ^ 128 - 1 else 0
fill true digits = if leftmost is_unknown digits then 2 ^ 128 - 1 else 0

-- the low bits of the digits, filled to the left
abbrev pub low_bits : Bool → ℕ → ℕ → List ℕ → ℕ
low_bits unk radix width digits = number unk radix (fill unk digits) digits % 2 ^ width

abbrev pub is_digit_of : ℕ → ℕ → Bool
is_digit_of radix b = is_underscore b || is_unknown b || nat_lt (hex_value b) radix

abbrev pub is_lone : List ℕ → Bool
is_lone digits = length digits == 1 && is_unknown (slice_index digits 0)

-- whether digits are those of a base: at least one of them, each below the radix, x or z; a decimal has no x or z, or just one of them
abbrev pub are_digits : ℕ → List ℕ → Bool
are_digits radix digits =
    not (list_all is_underscore digits)
    && (if radix == 10 then is_lone digits || list_all is_in_decimal digits else list_all (is_digit_of radix) digits)

abbrev pub radix_of : ℕ → ℕ
radix_of b = if b == 98 || b == 66 then 2 else if b == 111 || b == 79 then 8 else if b == 100 || b == 68 then 10 else 16

abbrev pub based_of : Bool → Bool → ℕ → ℕ → List ℕ → Literal
based_of sized signed radix width digits =
    record { width = width; val = low_bits false radix width digits; unk = low_bits true radix width digits; signed = signed; sized = sized; radix = radix }

-- an unsized literal has 32 bits, and none above them that isn't 0
abbrev pub unsized : Bool → ℕ → List ℕ → Option Literal
unsized signed radix digits =
    if nat_lt (number false radix 0 digits) (2 ^ 32) && nat_lt (number true radix 0 digits) (2 ^ 32)
    then Some (based_of false signed radix 32 digits) else None

-- a width is from 1 to 128
abbrev pub of_width : ℕ → Bool → ℕ → List ℕ → Option Literal
of_width width signed radix digits = if nat_le 1 width && nat_le width 128 then Some (based_of true signed radix width digits) else None

abbrev pub with_width : List ℕ → Bool → ℕ → List ℕ → Option Literal
with_width width signed radix digits =
    if length width == 0 then unsized signed radix digits else of_width (number false 10 0 width) signed radix digits

-- the width's digits, whether there is an `s`, and what follows the base letter
abbrev pub based : List ℕ → Bool → ℕ → List ℕ → Option Literal
based width signed radix digits = if are_digits radix digits then with_width width signed radix digits else None

abbrev pub without_blanks : List ℕ → List ℕ
without_blanks text = drop (prefix_len is_blank text) text

-- the width's digits, whether there is an `s`, and what stands from the base letter on
abbrev pub from_base : List ℕ → Bool → List ℕ → Option Literal
from_base width signed text = based width signed (radix_of (slice_index text 0)) (without_blanks (drop 1 text))

-- the width's digits, and what follows the quote
abbrev pub from_quote : List ℕ → List ℕ → Option Literal
from_quote width text = if is_sign (slice_index text 0) then from_base width true (drop 1 text) else from_base width false text

-- a decimal without a base is signed, has 32 bits, and is at most 2147483647
abbrev pub decimal_of : ℕ → Option Literal
decimal_of n = if nat_le n 2147483647 then Some (record { width = 32; val = n; unk = 0; signed = true; sized = false; radix = 10 }) else None

-- the bytes before the quote
abbrev pub before_quote : List ℕ → ℕ
before_quote text = prefix_len (λ b. not (b == 39)) text

-- the digits at the front: the width, or a decimal without a base
abbrev pub front_digits : List ℕ → List ℕ
front_digits text = take (prefix_len is_in_decimal text) text

-- the value of a text of a number's form, where it has one
unfoldable pub literal : List ℕ → Option Literal
literal text =
    if before_quote text == length text then decimal_of (number false 10 0 (front_digits text))
    else from_quote (front_digits text) (drop (before_quote text + 1) text)
