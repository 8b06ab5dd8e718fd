use Rattle.std.proofs.Common.{ℕ, ◌≡◌, ◌<◌, ◌+◌, List, length}
use Rattle.std.specs.Prelude.{slice_index_or}
use Rattle.rtl_bits.specs.declared.Bit.{Bit}
use Rattle.rtl_bits.specs.declared.Bit.TheVariants.{Z}
use Rattle.rtl_bits.specs.Bit.{resolve_bit}
use Rattle.rtl_bits.specs.Bits.{reduced}
use Rattle.event_tally.specs.Tallies.{IsTalliedAt}
use Rattle.event_tally.proofs.rows.bits_of.Given as goal

abbrev pub invariant-loop-k : goal.invariant-loop-k
invariant-loop-k l =
    (length l.bits ≡ l.count)
    × ((j : ℕ) (column : List Bit) → j < l.k → IsTalliedAt l.row (l.at + j) column → slice_index_or l.bits j Z ≡ reduced resolve_bit Z column)
