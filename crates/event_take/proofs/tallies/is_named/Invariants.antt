use Rattle.std.proofs.Common.{◌≡◌, drop, map}
use Rattle.rtl_flat.specs.Process.{piece}
use Rattle.event_write.specs.event_tally.Targets.{names}
use Rattle.event_take.proofs.tallies.is_named.Given as goal

abbrev pub invariant-loop-at : goal.invariant-loop-at
invariant-loop-at l =
    names (map piece (drop l.at l.parts)) l.signal.0 ≡ names (map piece (drop l.from l.parts)) l.signal.0
