use Rattle.rtl_flat.specs.Flats.{flat}
use Rattle.check_gates.specs.Tops.{AreTops}
use Rattle.check_gates.proofs.tops.tops_of.Given as goal

abbrev pub invariant-loop-top : goal.invariant-loop-top
invariant-loop-top l = AreTops (flat l.design) l.top l.tops.items
