use Rattle.std.proofs.Common.{◌≡◌, length}
use Rattle.rtl_flat.specs.Flats.{flat}
use Rattle.event_tables.specs.event_write.QueueState.{AreTallied}
use Rattle.event_queue.specs.First.{driver_in}
use Rattle.event_queue.proofs.Counted.{so_far}
use Rattle.event_queue.proofs.first_tallies.first_tallies.Given as goal

abbrev pub invariant-loop-number : goal.invariant-loop-number
invariant-loop-number l =
    (length l.tallies.items ≡ length l.design.signals.items)
    × AreTallied (flat l.design) (so_far (driver_in l.drivers) l.number) l.tallies.items
