use Rattle.rtl_flat.specs.Flats.{flat}
use Rattle.demo_replay.specs.Tables.{AreClockedBelow}
use Rattle.demo_replay.proofs.compare.clocked_signals.Given as goal

abbrev pub invariant-loop-number : goal.invariant-loop-number
invariant-loop-number l = AreClockedBelow (flat l.design) l.number l.marks.items
