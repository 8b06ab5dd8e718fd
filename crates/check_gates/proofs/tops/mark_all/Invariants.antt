use Rattle.std.proofs.Common.{take}
use Rattle.check_gates.specs.Tops.{AreMarkedAlso}
use Rattle.check_gates.proofs.tops.mark_all.Given as goal

abbrev pub invariant-loop-place : goal.invariant-loop-place
invariant-loop-place l = AreMarkedAlso (take l.place-index l.places) l.fn.marks l.marks
