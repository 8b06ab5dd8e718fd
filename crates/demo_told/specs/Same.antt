-- Values that are the same.
-- Worked examples: crates/tests_rows/stdin.
use Rattle.std.specs.Prelude.{Bool, true, false, ◌&&◌, List, [], ◌∷◌}
use Rattle.rtl_bits.specs.declared.Bit.{Bit}
use Rattle.rtl_bits.specs.Bits.{same_bit}

-- whether two values have the same bits
abbrev pub are_same : List Bit → List Bit → Bool
are_same [] [] = true
are_same (a ∷ one) (b ∷ other) = same_bit a b && are_same one other
are_same _ _ = false
