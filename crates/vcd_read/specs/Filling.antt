-- The value of a variable to which a vector is written (IEEE 1364-2001 section 18.2.1).
-- Worked examples: crates/vcd_read/proofs/Examples.antt.
use Rattle.std.specs.Prelude.{ℕ, ◌-◌, nat_lt, if◌then◌else◌, List, [], ◌∷◌, ◌++◌, length, replicate, Option, None, Some}
use Rattle.rtl_bits.specs.declared.Bit.{Bit}
use Rattle.rtl_bits.specs.declared.Bit.TheVariants.{Zero, One, X, Z}

-- the bit that fills a vector on the left: 0, or x or z where its leftmost bit is that
abbrev pub fill : Bit → Bit
fill Zero = Zero
fill One = Zero
fill X = X
fill Z = Z

-- bits in the other order, before those of a list
abbrev pub reversed : List Bit → List Bit → List Bit
reversed behind [] = behind
reversed behind (bit ∷ bits) = reversed (bit ∷ behind) bits

-- the value of a variable of a width, from the least significant bit on, where these bits are written, from the most
-- significant on; none where there is no bit, or one too many
abbrev pub filled : ℕ → List Bit → Option (List Bit)
filled width [] = None
filled width (first ∷ others) =
    if nat_lt width (length (first ∷ others))
    then None
    else Some (reversed (first ∷ []) others ++ replicate (width - length (first ∷ others)) (fill first))
