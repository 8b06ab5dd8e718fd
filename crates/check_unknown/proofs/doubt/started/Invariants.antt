use Rattle.rtl_flat.specs.Flats.{flat}
use Rattle.check_unknown.specs.Spreading.{IsStarting}
use Rattle.check_unknown.proofs.doubt.started.Given as goal

abbrev pub invariant-loop-p : goal.invariant-loop-p
invariant-loop-p l = IsStarting (flat l.scans.design.now) l.p l.spread
