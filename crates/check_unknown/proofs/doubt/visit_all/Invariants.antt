use Rattle.std.proofs.Common.{take}
use Rattle.rtl_flat.specs.Flats.{flat}
use Rattle.check_unknown.specs.Spreading.{Reaches}
use Rattle.check_unknown.proofs.doubt.visit_all.Given as goal

abbrev pub invariant-loop-p : goal.invariant-loop-p
invariant-loop-p l =
    Reaches (flat l.scans.design.now) (take l.p-index l.readers) l.fn.seen l.fn.spread l.seen l.spread
