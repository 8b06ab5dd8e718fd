-- What a constant expression is worth by the standard: the bits that it has in the sizes and signs of its operands, by
-- the operators of the design's own expressions (IEEE 1364-2001 sections 4.1, 4.4 and 4.5). Bits are x where it has no
-- value, as a division by 0 has none.
-- Worked examples: proofs/Examples.antt.
use Rattle.std.specs.Prelude.{ℕ, ◌^◌, max, min, ℤ, pos, negsuc, int_le, ◌&&◌, ◌||◌, not, cond, length, List, [], ◌∷◌, Option, None, Some, Bool, true, false, Ok, Err}
use Rattle.rtl_bits.specs.declared.Bit.{Bit}
use Rattle.rtl_bits.specs.Bits.{all_x, bits_of, extended, has_unknown, number, truth_bit}
use Rattle.rtl_const.specs.Constant.{clog2}
use Rattle.rtl_tree.specs.declared.tree.operators.SystemFunction.TheVariants.{Clog2}
use Rattle.rtl_tree.specs.TreeExpr.{Formula, Number, Read, ReadBit, ReadPart, Parens, Apply, Concat, Repeat, Unary, Binary, Choose}
use Rattle.rtl_flat.specs.Sizing.{literal_at}
use Rattle.rtl_flat.specs.Value.{chosen, compared, folded, index_number, joined, linked, shifted, turned}
use Rattle.elab_walk.specs.elab_scope.declared.context.Context.{Context}
use Rattle.elab_walk.specs.elab_scope.declared.operators.Prefix.{Prefix}
use Rattle.elab_walk.specs.elab_scope.declared.operators.Prefix.TheVariants.{Turn, Fold}
use Rattle.elab_walk.specs.elab_scope.declared.operators.Operation.{Operation}
use Rattle.elab_walk.specs.elab_scope.declared.operators.Operation.TheVariants.{Join, Compare, Link, Shift, Power}
use Rattle.elab_walk.specs.elab_scope.Operators.{operation, prefix}
use Rattle.elab_walk.specs.elab_scope.Own.{breadth, sign}
use Rattle.elab_walk.specs.elab_scope.Trees.{left_context, literal_bits, operand_context, own_context, right_context}
use Rattle.elab_walk.specs.elab_scope.Widths.{bits}
use Rattle.elab_standard.specs.Scopes.{Scopes, read_bits, restated}

-- the whole number that bits are; none where one isn't known
abbrev pub whole_number : Bool → List Bit → Option ℤ
whole_number signed a = cond (has_unknown a) None (Some (index_number signed a))

-- what `$clog2` of a number is worth
abbrev pub logarithm_worth : Option ℤ → List Bit
logarithm_worth (Some (pos n)) = bits_of 32 (clog2 n)
logarithm_worth (Some (negsuc n)) = all_x 32
logarithm_worth None = all_x 32

-- the exponents that are raised to: from 0 to the highest of 32 bits
abbrev pub is_exponent : ℤ → Bool
is_exponent n = int_le (pos 0) n && int_le n (pos 4294967295)

-- what a power of these bits is worth, whose exponent is signed or not: modulo 2 to the width
abbrev pub power_worth : Bool → List Bit → List Bit → List Bit
power_worth signed a b =
    cond (has_unknown a || has_unknown b || not (is_exponent (index_number signed b))) (all_x (length a)) (bits_of (length a) (number a ^ number b))

-- what an operator before an operand of these bits is worth
abbrev pub prefix_worth : Prefix → Context → List Bit → List Bit
prefix_worth (Turn operator) c a = turned operator a
prefix_worth (Fold operator) c a = extended c.width c.signed (folded operator a ∷ [])

-- what an operator between operands of these bits is worth, of which those of a comparison are signed as the left one
abbrev pub operation_worth : Operation → Context → Bool → Bool → List Bit → List Bit → List Bit
operation_worth (Join operator) c left right a b = joined operator c.signed a b
operation_worth (Compare operator) c left right a b =
    extended c.width c.signed (compared operator left a b ∷ [])
operation_worth (Link operator) c left right a b = extended c.width c.signed (linked operator a b ∷ [])
operation_worth (Shift operator) c left right a b = shifted operator c.signed a b
operation_worth Power c left right a b = power_worth right a b

-- the bits of a constant expression in a context; those of a form that isn't constant aren't known
abbrev pub worth : Scopes → Formula → Context → List Bit
worth s (Number value at) c = literal_at c.width c.signed value.sized (literal_bits value)
worth s (Read name) c = extended c.width c.signed (read_bits (s.scope name.text) (s.standards name.text))
worth s (Parens at inner) c = worth s inner c
worth s (Apply Clog2 at inner) c =
    extended c.width c.signed (logarithm_worth (whole_number (sign (restated s) inner) (worth s inner (own_context (restated s) inner))))
worth s (Unary operator at a) c =
    prefix_worth (prefix operator) c (worth s a (operand_context (restated s) (prefix operator) a c))
worth s (Binary operator at a b) c =
    operation_worth (operation operator) c
    (left_context (restated s) (operation operator) a b c).signed
    (right_context (restated s) (operation operator) a b c).signed
    (worth s a (left_context (restated s) (operation operator) a b c))
    (worth s b (right_context (restated s) (operation operator) a b c))
worth s (Choose at condition taken otherwise) c =
    chosen (truth_bit (worth s condition (own_context (restated s) condition))) (worth s taken c) (worth s otherwise c)
worth s e c = all_x c.width

-- the context of an expression that something of so many bits takes: it counts for the width and not for the sign
abbrev pub taken_context : ℕ → Context → Context
taken_context wanted own = record { width = min (max wanted own.width) 128; signed = own.signed }

-- an expression by itself
abbrev pub own_worth : Scopes → Formula → List Bit
own_worth s e = worth s e (own_context (restated s) e)

-- one that something of so many bits takes, cut to them
abbrev pub taken_worth : Scopes → ℕ → Formula → List Bit
taken_worth s wanted e =
    extended wanted (sign (restated s) e) (worth s e (taken_context wanted (own_context (restated s) e)))
