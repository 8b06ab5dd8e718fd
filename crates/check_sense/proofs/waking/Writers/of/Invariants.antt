use Rattle.std.proofs.Common.{take}
use Rattle.rtl_flat.specs.Flats.{flat}
use Rattle.check_sense.specs.Telling.{AreWriters}
use Rattle.check_sense.proofs.waking.Writers.of.Given as goal

abbrev pub invariant-loop-number : goal.invariant-loop-number
invariant-loop-number l = AreWriters (flat l.scans.design.now) (take l.number (flat l.scans.design.now).tasks) l.writers
