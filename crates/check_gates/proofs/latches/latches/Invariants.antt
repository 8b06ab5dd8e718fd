use Rattle.rtl_flat.specs.Flats.{flat}
use Rattle.check_gates.specs.Admitted.{gates_of}
use Rattle.check_gates.specs.Latches.{AreLatches}
use Rattle.check_gates.proofs.latches.latches.Given as goal

abbrev pub invariant-loop-number : goal.invariant-loop-number
invariant-loop-number l = AreLatches (flat l.design) l.number (gates_of l.gates.items)
