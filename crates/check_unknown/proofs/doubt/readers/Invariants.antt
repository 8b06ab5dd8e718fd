use Rattle.rtl_flat.specs.Flats.{flat}
use Rattle.check_unknown.specs.Spreading.{AreReaders}
use Rattle.check_unknown.proofs.doubt.readers.Given as goal

abbrev pub invariant-loop-p : goal.invariant-loop-p
invariant-loop-p l = AreReaders (flat l.scans.design.now) l.p l.table.items
