use Rattle.std.proofs.Common.{take}
use Rattle.std.specs.List.{flat_map}
use Rattle.check_gates.specs.Latches.{open_input}
use Rattle.check_gates.specs.Tops.{AreMarkedAlso}
use Rattle.check_gates.proofs.inputs.mark_open.Given as goal

abbrev pub invariant-loop-gate : goal.invariant-loop-gate
invariant-loop-gate l =
    AreMarkedAlso (flat_map (open_input l.opens) (take l.gate-index l.gates)) l.fn.marks l.marks
