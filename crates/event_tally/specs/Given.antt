-- It serves inner contracts and proofs; no answer of the program is stated by it.
-- What drivers give to one bit of a net.
use Rattle.std.specs.Prelude.{ℕ, ◌≤◌, ◌+◌, List, [], ◌∷◌, length, slice_index_or}
use Rattle.rtl_bits.specs.declared.Bit.{Bit}
use Rattle.rtl_bits.specs.declared.Bit.TheVariants.{Z}
use Rattle.rtl_flat.specs.Process.{Doing, Assign, Comb, Edge', Task}
use Rattle.rtl_flat.specs.Flats.{Flat, widths}
use Rattle.event_model.specs.Writes.{driven}
use Rattle.event_tally.specs.declared.tally.Tally.{Tally}
use Rattle.event_tally.specs.Tallies.{IsTalliedAt}

-- what a process gives to bit k of a net: z where it drives none
abbrev pub bit_given : (ℕ → ℕ) → Doing → List Bit → ℕ → ℕ → Bit
bit_given ws (Assign target e) bits net k = slice_index_or (driven ws target bits net) k Z
bit_given ws (Comb list body) bits net k = Z
bit_given ws (Edge' events body) bits net k = Z

-- what the processes numbered from a number on give to it
abbrev pub given_from : (ℕ → ℕ) → ℕ → List Task → (ℕ → List Bit) → ℕ → ℕ → List Bit
given_from ws number [] driver net k = []
given_from ws number (one ∷ others) driver net k =
    bit_given ws one.does (driver number) net k ∷ given_from ws (number + 1) others driver net k

abbrev pub given_bits : Flat → (ℕ → List Bit) → ℕ → ℕ → List Bit
given_bits d driver net k = given_from (widths d) 0 d.tasks driver net k

-- whether tallies count the drivers of the bits of a net
pub record AreCounted (d : Flat) (driver : ℕ → List Bit) (net : ℕ) (row : List Tally) : Type 0 where
  pub inside : length row ≤ widths d net
  pub each : (k : ℕ) → IsTalliedAt row k (given_bits d driver net k)
