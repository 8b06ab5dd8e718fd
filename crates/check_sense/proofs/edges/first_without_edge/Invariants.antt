use Rattle.std.proofs.Common.{◌≡◌, map, drop}
use Rattle.rtl_flat.specs.Process.{watched}
use Rattle.check_sense.specs.Sense.{signal_of}
use Rattle.check_sense.specs.Telling.{level_in}
use Rattle.check_sense.proofs.edges.first_without_edge.Given as goal

abbrev pub invariant-loop-item : goal.invariant-loop-item
invariant-loop-item l =
    signal_of (level_in (map watched (drop l.item-index l.events))) ≡ signal_of (level_in (map watched l.events))
