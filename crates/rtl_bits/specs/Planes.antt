-- How a vector is stored: two numbers whose digits give each bit.
-- Worked examples: crates/tests_layers/src/vectors.rt, crates/tests_layers/stdout.
use Rattle.std.specs.Prelude.{ℕ, ◌^◌, ◌<◌, ◌≤◌, Bool, true, false, List}
use Rattle.rtl_bits.specs.declared.Bit.{Bit}
use Rattle.rtl_bits.specs.declared.Bit.TheVariants.{Zero, One, X, Z}
use Rattle.rtl_bits.specs.Bits.{tabulate, is_one_at}

-- the bit of the digits `val` and `unk`
abbrev pub bit_of : Bool → Bool → Bit
bit_of false false = Zero
bit_of true false = One
bit_of false true = X
bit_of true true = Z

-- the digit `val` of a bit
abbrev pub in_val : Bit → Bool
in_val Zero = false
in_val One = true
in_val X = false
in_val Z = true

-- the bits that two numbers store
abbrev pub bits_of_planes : ℕ → ℕ → ℕ → List Bit
bits_of_planes width val unk = tabulate width (λ i. bit_of (is_one_at val i) (is_one_at unk i))

-- a vector has 1 to 128 bits, and no digit above them
pub record IsVector (width val unk : ℕ) : Type 0 where
  pub not_empty : 1 ≤ width
  pub width_max : width ≤ 128
  pub val_fits : val < 2 ^ width
  pub unk_fits : unk < 2 ^ width
