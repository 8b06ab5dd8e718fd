use Rattle.rtl_flat.specs.Flats.{flat}
use Rattle.check_clocks.specs.Cone.{AreConed}
use Rattle.check_clocks.proofs.cone.coned.Given as goal

abbrev pub invariant-loop-top : goal.invariant-loop-top
invariant-loop-top l = AreConed (flat l.scans.design.now) l.top l.cone.items
