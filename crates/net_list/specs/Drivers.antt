-- It serves inner contracts and proofs; no answer of the program is stated by it.
-- The bits that the processes below a number may write, as a set that grows.
use Rattle.std.specs.Prelude.{ℕ, ◌≡◌}
use Rattle.rtl_flat.specs.Flats.{Flat}
use Rattle.check_assign.specs.rtl_scan.Sets.{has}
use Rattle.check_assign.specs.rtl_scan.declared.bits.BitSet.{BitSet}
use Rattle.check_assign.specs.Assigned.{lower_writes}

-- a set has just the bits that a process below a number may write
abbrev pub AreLower : Flat → ℕ → BitSet → Type 0
AreLower d p bits = (s k : ℕ) → has bits.masks s k ≡ lower_writes d p s k
