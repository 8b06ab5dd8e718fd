-- The four values of one bit, and the tables of IEEE 1364-2001 on them.
-- Worked examples: crates/tests_layers/src/vectors.rt, crates/tests_layers/stdout.
use Rattle.std.specs.Prelude.{Bool, true, false}
use Rattle.rtl_bits.specs.declared.Bit.{Bit}
use Rattle.rtl_bits.specs.declared.Bit.TheVariants.{Zero, One, X, Z}
use Rattle.rtl_bits.specs.declared.Edge.{Edge}
use Rattle.rtl_bits.specs.declared.Edge.TheVariants.{No, Pos, Neg}

-- the bit that a truth value is
abbrev pub known_bit : Bool → Bit
known_bit true = One
known_bit false = Zero

-- whether a bit is 1
abbrev pub is_one : Bit → Bool
is_one Zero = false
is_one One = true
is_one X = false
is_one Z = false

-- whether a bit is x or z
abbrev pub is_unknown : Bit → Bool
is_unknown Zero = false
is_unknown One = false
is_unknown X = true
is_unknown Z = true

-- binary `&` (IEEE 1364-2001 section 4.1.10): 0 where either is 0, 1 where both are 1, else x
abbrev pub and_bit : Bit → Bit → Bit
and_bit Zero _ = Zero
and_bit _ Zero = Zero
and_bit One One = One
and_bit _ _ = X

-- binary `|` (IEEE 1364-2001 section 4.1.10): 1 where either is 1, 0 where both are 0, else x
abbrev pub or_bit : Bit → Bit → Bit
or_bit One _ = One
or_bit _ One = One
or_bit Zero Zero = Zero
or_bit _ _ = X

-- binary `^` (IEEE 1364-2001 section 4.1.10): x where either is x or z
abbrev pub xor_bit : Bit → Bit → Bit
xor_bit Zero Zero = Zero
xor_bit Zero One = One
xor_bit One Zero = One
xor_bit One One = Zero
xor_bit _ _ = X

-- unary `~` (IEEE 1364-2001 section 4.1.10)
abbrev pub not_bit : Bit → Bit
not_bit Zero = One
not_bit One = Zero
not_bit X = X
not_bit Z = X

-- two drivers of one wire without strengths (IEEE 1364-2001 section 3.7.1): z yields to the other,
-- equal values stand, all else is x
abbrev pub resolve_bit : Bit → Bit → Bit
resolve_bit Z b = b
resolve_bit a Z = a
resolve_bit Zero Zero = Zero
resolve_bit One One = One
resolve_bit _ _ = X

-- the arms of `?:` under an unknown condition (IEEE 1364-2001 section 4.1.13): x where they differ
-- or aren't known
abbrev pub merge_bit : Bit → Bit → Bit
merge_bit Zero Zero = Zero
merge_bit One One = One
merge_bit _ _ = X

-- the edge event of a change (IEEE 1364-2001 section 9.7.2): towards 1 is a posedge, towards 0 a
-- negedge, and x and z lie between
abbrev pub edge : Bit → Bit → Edge
edge Zero Zero = No
edge Zero _ = Pos
edge One One = No
edge One _ = Neg
edge _ Zero = Neg
edge _ One = Pos
edge _ _ = No
