-- The four-valued value of an expression (IEEE 1364-2001 section 4.1).
-- Worked examples: proofs/Examples.antt.
use Rattle.std.specs.Prelude.{ℕ, ℤ, pos, negsuc, ◌-ℤ◌, int_div, int_rem, Bool, cond, List, [], ◌∷◌, ◌++◌, length, map, slice_index_or}
use Rattle.rtl_bits.specs.declared.Bit.{Bit}
use Rattle.rtl_bits.specs.declared.Bit.TheVariants.{Zero, One, X, Z}
use Rattle.rtl_bits.specs.Bit.{and_bit, or_bit, xor_bit, not_bit, merge_bit}
use Rattle.rtl_bits.specs.Bits.{zip_with, number, signed_number, has_unknown, all_x, sum_bits, difference_bits, product_bits, quotient_bits, remainder_bits, negated_bits, signed_division, equal_bit, case_equal_bit, less_bit, truth_bit, reduced, top_bit, extended, selected, copies, shifted_left, shifted_right}
use Rattle.rtl_flat.specs.declared.expr.Turn.{Turn}
use Rattle.rtl_flat.specs.declared.expr.Turn.TheVariants.{Plus, Minus, Complement}
use Rattle.rtl_flat.specs.declared.expr.Join.{Join}
use Rattle.rtl_flat.specs.declared.expr.Join.TheVariants as join
use Rattle.rtl_flat.specs.declared.expr.Compare.{Compare}
use Rattle.rtl_flat.specs.declared.expr.Compare.TheVariants as compare
use Rattle.rtl_flat.specs.declared.expr.Link.{Link}
use Rattle.rtl_flat.specs.declared.expr.Link.TheVariants as link
use Rattle.rtl_flat.specs.declared.expr.Fold.{Fold}
use Rattle.rtl_flat.specs.declared.expr.Fold.TheVariants as fold
use Rattle.rtl_flat.specs.declared.expr.Shift.{Shift}
use Rattle.rtl_flat.specs.declared.expr.Shift.TheVariants as shift
use Rattle.rtl_flat.specs.Expression.{Tree, Sized, Literal, Whole, BitAt, BitBy, Part, Turned, Joined, Compared, Linked, Folded, Shifted, Chosen, Empty, Beside, Repeated, Recast}

-- the bit at a place; x where there is none (section 4.2.1)
abbrev pub bit_at : List Bit → ℤ → Bit
bit_at bits (pos k) = slice_index_or bits k X
bit_at bits (negsuc k) = X

-- the number that known bits are as an index
abbrev pub index_number : Bool → List Bit → ℤ
index_number signed bits = cond signed (signed_number bits) (pos (number bits))

-- the bit that an index selects where the declaration numbers the lowest bit `low`; x where the
-- index has an x or z (section 4.2.1)
abbrev pub bit_by : List Bit → ℕ → Bool → List Bit → Bit
bit_by bits low signed index =
    cond (has_unknown index) X (bit_at bits (index_number signed index -ℤ pos low))

-- unary operators (sections 4.1.5 and 4.1.10)
abbrev pub turned : Turn → List Bit → List Bit
turned Plus a = cond (has_unknown a) (all_x (length a)) a
turned Minus a = negated_bits a
turned Complement a = map not_bit a

-- arithmetic (sections 4.1.5 and 4.1.6) and bitwise (section 4.1.10) operators
abbrev pub joined : Join → Bool → List Bit → List Bit → List Bit
joined join.Add signed a b = sum_bits a b
joined join.Subtract signed a b = difference_bits a b
joined join.Multiply signed a b = product_bits a b
joined join.Divide signed a b = cond signed (signed_division int_div a b) (quotient_bits a b)
joined join.Remainder signed a b = cond signed (signed_division int_rem a b) (remainder_bits a b)
joined join.And signed a b = zip_with and_bit a b
joined join.Or signed a b = zip_with or_bit a b
joined join.Xor signed a b = zip_with xor_bit a b
joined join.Xnor signed a b = map not_bit (zip_with xor_bit a b)

-- relations and equalities (sections 4.1.7 and 4.1.8)
abbrev pub compared : Compare → Bool → List Bit → List Bit → Bit
compared compare.Equal signed a b = equal_bit a b
compared compare.NotEqual signed a b = not_bit (equal_bit a b)
compared compare.CaseEqual signed a b = case_equal_bit a b
compared compare.CaseNotEqual signed a b = not_bit (case_equal_bit a b)
compared compare.Less signed a b = less_bit signed a b
compared compare.LessOrEqual signed a b = not_bit (less_bit signed b a)
compared compare.Greater signed a b = less_bit signed b a
compared compare.GreaterOrEqual signed a b = not_bit (less_bit signed a b)

-- logical operators (section 4.1.9)
abbrev pub linked : Link → List Bit → List Bit → Bit
linked link.And a b = and_bit (truth_bit a) (truth_bit b)
linked link.Or a b = or_bit (truth_bit a) (truth_bit b)

-- logical negation (section 4.1.9) and reductions (section 4.1.11)
abbrev pub folded : Fold → List Bit → Bit
folded fold.Negation a = not_bit (truth_bit a)
folded fold.And a = reduced and_bit One a
folded fold.Nand a = not_bit (reduced and_bit One a)
folded fold.Or a = reduced or_bit Zero a
folded fold.Nor a = not_bit (reduced or_bit Zero a)
folded fold.Xor a = reduced xor_bit Zero a
folded fold.Xnor a = not_bit (reduced xor_bit Zero a)

-- shifts (section 4.1.12); `>>>` of an unsigned operand is `>>`
abbrev pub shifted : Shift → Bool → List Bit → List Bit → List Bit
shifted shift.Left signed a amount = shifted_left a amount
shifted shift.Right signed a amount = shifted_right Zero a amount
shifted shift.ArithmeticRight signed a amount =
    shifted_right (cond signed (top_bit a) Zero) a amount

-- `?:` (section 4.1.13), by what its condition is as a logical operand
abbrev pub chosen : Bit → List Bit → List Bit → List Bit
chosen One a b = a
chosen Zero a b = b
chosen X a b = zip_with merge_bit a b
chosen Z a b = zip_with merge_bit a b

-- the bits of an expression where `v` gives those of each signal
abbrev pub value : (ℕ → List Bit) → Tree → List Bit
value v (Sized width signed spot e) = extended width signed (value v e)
value v (Literal bits) = bits
value v (Whole i) = v i
value v (BitAt i low index) = bit_at (v i) (index -ℤ pos low) ∷ []
value v (BitBy i low signed index) = bit_by (v i) low signed (value v index) ∷ []
value v (Part i low width) = selected low width (v i)
value v (Turned operator a) = turned operator (value v a)
value v (Joined operator signed a b) = joined operator signed (value v a) (value v b)
value v (Compared operator signed a b) = compared operator signed (value v a) (value v b) ∷ []
value v (Linked operator a b) = linked operator (value v a) (value v b) ∷ []
value v (Folded operator a) = folded operator (value v a) ∷ []
value v (Shifted operator signed a amount) =
    shifted operator signed (value v a) (value v amount)
value v (Chosen c a b) = chosen (truth_bit (value v c)) (value v a) (value v b)
value v Empty = []
value v (Beside a others) = value v others ++ value v a
value v (Repeated times a) = copies times (value v a)
value v (Recast a) = value v a

-- the values of signals in a list
abbrev pub store : List (List Bit) → ℕ → List Bit
store values i = slice_index_or values i []

-- the widths of signals whose values are in a list
abbrev pub widths : List (List Bit) → ℕ → ℕ
widths values i = length (store values i)
