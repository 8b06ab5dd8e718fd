use Rattle.std.proofs.Common.{ℕ, ◌≡◌, List, drop, length, map}
use Rattle.rtl_bits.specs.declared.Bit.{Bit}
use Rattle.rtl_flat.specs.Process.{piece}
use Rattle.rtl_flat.specs.Flats.{flat}
use Rattle.event_write.specs.QueueState.{AreTallied}
use Rattle.event_take.proofs.Retallying.{Half}
use Rattle.event_take.proofs.tallies.move_parts.Given as goal

abbrev pub invariant-loop-at : goal.invariant-loop-at
invariant-loop-at l =
    (length l.tallies.items ≡ length l.initial.tallies.items)
    × ((driver : ℕ → List Bit) → driver l.fn.process.0 ≡ l.old → AreTallied (flat l.design) driver l.initial.tallies.items → Half (flat l.design) driver l.fn.process.0 l.new (map piece (drop l.at l.parts)) l.tallies.items)
