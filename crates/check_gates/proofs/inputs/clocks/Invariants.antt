use Rattle.rtl_flat.specs.Flats.{flat}
use Rattle.check_gates.specs.Latches.{AreClocks}
use Rattle.check_gates.proofs.inputs.clocks.Given as goal

abbrev pub invariant-loop-number : goal.invariant-loop-number
invariant-loop-number l = AreClocks (flat l.scans.design.now) l.number l.marks.items
