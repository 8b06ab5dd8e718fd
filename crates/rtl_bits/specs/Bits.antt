-- Vectors as lists of bits, the least significant first, and the operators of IEEE 1364-2001 on them.
-- Worked examples: crates/tests_layers/src/vectors.rt, crates/tests_layers/stdout.
use Rattle.std.specs.Prelude.{ℕ, zero, suc, ◌+◌, ◌-◌, ◌*◌, ◌/◌, ◌%◌, ◌^◌, Bool, true, false, cond, ◌&&◌, ◌||◌, ◌==◌, nat_lt, List, [], ◌∷◌, ◌++◌, length, take, drop, replicate, slice_index_or, ℤ, pos, negsuc, ◌-ℤ◌, int_lt}
use Rattle.std.specs.List.{list_any}
use Rattle.rtl_bits.specs.declared.Bit.{Bit}
use Rattle.rtl_bits.specs.declared.Bit.TheVariants.{Zero, One, X, Z}
use Rattle.rtl_bits.specs.Bit.{known_bit, is_one, is_unknown}

-- ---- lists by place

-- the list of f 0 to f (n - 1)
abbrev pub tabulate : {A : Type 0} → ℕ → (ℕ → A) → List A
tabulate zero f = []
tabulate (suc n) f = f 0 ∷ tabulate n (λ i. f (suc i))

-- an operator on bits at each place of two lists
abbrev pub zip_with : (Bit → Bit → Bit) → List Bit → List Bit → List Bit
zip_with f (x ∷ a) (y ∷ b) = f x y ∷ zip_with f a b
zip_with f _ _ = []

-- whether a test of two bits holds at each place of two lists
abbrev pub all_with : (Bit → Bit → Bool) → List Bit → List Bit → Bool
all_with test (x ∷ a) (y ∷ b) = test x y && all_with test a b
all_with test _ _ = true

-- ---- numbers

-- whether the digit of n at place i, in base 2, is 1
unfoldable pub is_one_at : ℕ → ℕ → Bool
is_one_at n i = n / 2 ^ i % 2 == 1

-- the bits of n modulo 2 to the width
abbrev pub bits_of : ℕ → ℕ → List Bit
bits_of width n = tabulate width (λ i. known_bit (is_one_at n i))

-- the number whose digits in base 2 are 1 where the bits meet a test
abbrev pub number_where : (Bit → Bool) → List Bit → ℕ
number_where test [] = 0
number_where test (b ∷ bs) = number_where test bs * 2 + cond (test b) 1 0

-- the number that known bits spell
abbrev pub number : List Bit → ℕ
number bits = number_where is_one bits

-- whether a bit is x or z
abbrev pub has_unknown : List Bit → Bool
has_unknown bits = list_any is_unknown bits

-- x in every bit
abbrev pub all_x : ℕ → List Bit
all_x width = replicate width X

-- ---- arithmetic (IEEE 1364-2001 section 4.1.5)

-- an operator on numbers modulo 2 to the width, where every bit of both operands is known; else x
abbrev pub arithmetic : (ℕ → ℕ → ℕ) → List Bit → List Bit → List Bit
arithmetic f a b =
    cond (has_unknown a || has_unknown b) (all_x (length a)) (bits_of (length a) (f (number a) (number b)))

-- the sum
abbrev pub sum_bits : List Bit → List Bit → List Bit
sum_bits a b = arithmetic (λ m n. m + n) a b

-- the difference, which wraps below 0
abbrev pub difference_bits : List Bit → List Bit → List Bit
difference_bits a b = arithmetic (λ m n. m + (2 ^ length a - n)) a b

-- the product
abbrev pub product_bits : List Bit → List Bit → List Bit
product_bits a b = arithmetic (λ m n. m * n) a b

-- the number that, added to this one, gives 0
abbrev pub negated_bits : List Bit → List Bit
negated_bits a = cond (has_unknown a) (all_x (length a)) (bits_of (length a) (2 ^ length a - number a))

-- an operator that has no value at the divisor 0, where it gives x in every bit
abbrev pub division : (ℕ → ℕ → ℕ) → List Bit → List Bit → List Bit
division f a b = cond (number b == 0) (all_x (length a)) (arithmetic f a b)

-- the quotient of unsigned numbers
abbrev pub quotient_bits : List Bit → List Bit → List Bit
quotient_bits a b = division (λ m n. m / n) a b

-- the remainder of unsigned numbers
abbrev pub remainder_bits : List Bit → List Bit → List Bit
remainder_bits a b = division (λ m n. m % n) a b

-- ---- two's complement (IEEE 1364-2001 section 4.1.6)

-- the number that known bits spell where they are signed: from half of 2 to the width on, it is
-- less by 2 to the width
abbrev pub signed_number : List Bit → ℤ
signed_number a =
    cond (nat_lt (2 * number a) (2 ^ length a)) (pos (number a)) (pos (number a) -ℤ pos (2 ^ length a))

-- the bits of a signed number that isn't below - 2 to the width
abbrev pub bits_of_signed : ℕ → ℤ → List Bit
bits_of_signed width (pos n) = bits_of width n
bits_of_signed width (negsuc n) = bits_of width (2 ^ width - suc n)

-- an operator on signed numbers that has no value at the divisor 0, where it gives x in every bit
abbrev pub signed_division : (ℤ → ℤ → ℤ) → List Bit → List Bit → List Bit
signed_division f a b =
    cond (has_unknown a || has_unknown b || (number b == 0)) (all_x (length a))
    (bits_of_signed (length a) (f (signed_number a) (signed_number b)))

-- ---- one-bit answers

-- `<` (IEEE 1364-2001 section 4.1.7): x where a bit is x or z
abbrev pub less_bit : Bool → List Bit → List Bit → Bit
less_bit signed a b =
    cond (has_unknown a || has_unknown b) X
    (known_bit (cond signed (int_lt (signed_number a) (signed_number b)) (nat_lt (number a) (number b))))

-- whether no two known values differ: so it is in `casex` (IEEE 1364-2001 section 9.5.1), where x and
-- z on either side match anything
abbrev pub may_equal : Bit → Bit → Bool
may_equal Zero One = false
may_equal One Zero = false
may_equal _ _ = true

-- `==` (IEEE 1364-2001 section 4.1.8): 0 where two known bits differ, else x where a bit is x or z
abbrev pub equal_bit : List Bit → List Bit → Bit
equal_bit a b = cond (all_with may_equal a b) (cond (has_unknown a || has_unknown b) X One) Zero

-- whether two bits are the same one of the four
abbrev pub same_bit : Bit → Bit → Bool
same_bit Zero Zero = true
same_bit One One = true
same_bit X X = true
same_bit Z Z = true
same_bit _ _ = false

-- `===` (IEEE 1364-2001 section 4.1.8): all four values count
abbrev pub case_equal_bit : List Bit → List Bit → Bit
case_equal_bit a b = known_bit (all_with same_bit a b)

-- a bit and a label's in `casez` (IEEE 1364-2001 section 9.5.1): z on either side matches anything
abbrev pub matches_but_z : Bit → Bit → Bool
matches_but_z Z _ = true
matches_but_z _ Z = true
matches_but_z a b = same_bit a b

-- a logical operand (IEEE 1364-2001 section 4.1.9): true where a bit is 1, false where all are 0
abbrev pub truth_bit : List Bit → Bit
truth_bit a = cond (list_any is_one a) One (cond (has_unknown a) X Zero)

-- a reduction (IEEE 1364-2001 section 4.1.11): an operator between all bits of one vector
abbrev pub reduced : (Bit → Bit → Bit) → Bit → List Bit → Bit
reduced f start [] = start
reduced f start (b ∷ bs) = f b (reduced f start bs)

-- ---- parts

-- the most significant bit
abbrev pub top_bit : List Bit → Bit
top_bit a = slice_index_or a (length a - 1) X

-- a vector at another width (IEEE 1364-2001 sections 4.4 and 4.5): cut, or filled with 0, or where it
-- is signed with its highest bit
abbrev pub extended : ℕ → Bool → List Bit → List Bit
extended width signed a = take width a ++ replicate (width - length a) (cond signed (top_bit a) Zero)

-- the part of a width from a place on (IEEE 1364-2001 section 4.2.1)
abbrev pub selected : ℕ → ℕ → List Bit → List Bit
selected at width a = take width (drop at a)

-- a vector with a part written over the bits from a place on
abbrev pub replaced : ℕ → List Bit → List Bit → List Bit
replaced at part a = take at a ++ part ++ drop (at + length part) a

-- a vector repeated (IEEE 1364-2001 section 4.1.14)
abbrev pub copies : ℕ → List Bit → List Bit
copies zero a = []
copies (suc n) a = a ++ copies n a

-- `<<` (IEEE 1364-2001 section 4.1.12): vacated places are 0; x in every bit for an unknown amount
abbrev pub shifted_left : List Bit → List Bit → List Bit
shifted_left a by =
    cond (has_unknown by) (all_x (length a)) (take (length a) (replicate (number by) Zero ++ a))

-- `>>` and `>>>` (IEEE 1364-2001 section 4.1.12): vacated places have the fill
abbrev pub shifted_right : Bit → List Bit → List Bit → List Bit
shifted_right fill a by =
    cond (has_unknown by) (all_x (length a)) (take (length a) (drop (number by) a ++ replicate (number by) fill))
