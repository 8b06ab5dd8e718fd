-- It serves inner contracts and proofs; no answer of the program is stated by it.
-- How many bits are 0, 1 and x.
use Rattle.std.specs.Prelude.{ℕ, suc, ◌≡◌, ◌<◌, ◌+◌, ◌^◌, cond, List, [], ◌∷◌, Some, length}
use Rattle.std.specs.List.{slice_get}
use Rattle.rtl_bits.specs.declared.Bit.{Bit}
use Rattle.rtl_bits.specs.declared.Bit.TheVariants.{Zero, One, X}
use Rattle.rtl_bits.specs.Bits.{same_bit}
use Rattle.event_tally.specs.declared.tally.Tally.{Tally}

-- how many of some bits are a given one
abbrev pub times : Bit → List Bit → ℕ
times bit [] = 0
times bit (b ∷ bs) = cond (same_bit bit b) (suc (times bit bs)) (times bit bs)

-- whether a tally counts some bits
pub record IsTally (bits : List Bit) (tally : Tally) : Type 0 where
  pub zeros : tally.zeros ≡ times Zero bits
  pub ones : tally.ones ≡ times One bits
  pub unknowns : tally.unknowns ≡ times X bits

-- whether a tally can count one bit more
pub record HasRoom (tally : Tally) : Type 0 where
  pub zeros : tally.zeros + 1 < 2 ^ 32
  pub ones : tally.ones + 1 < 2 ^ 32
  pub unknowns : tally.unknowns + 1 < 2 ^ 32

-- whether a tally counts a bit and some others, not too many
pub record IsTallyWith (bit : Bit) (tally : Tally) : Type 0 where
  pub others : List Bit
  pub few : length others + 1 < 2 ^ 32
  pub tally_is : IsTally (bit ∷ others) tally

-- whether the tally at a place, if there is one, counts some bits
abbrev pub IsTalliedAt : List Tally → ℕ → List Bit → Type 0
IsTalliedAt row k bits = (tally : Tally) → slice_get row k ≡ Some tally → IsTally bits tally

-- whether it counts a bit and some others, not too many
abbrev pub IsTalliedWith : List Tally → ℕ → Bit → Type 0
IsTalliedWith row k bit = (tally : Tally) → slice_get row k ≡ Some tally → IsTallyWith bit tally
