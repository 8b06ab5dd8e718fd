use Rattle.std.proofs.Common.{◌≡◌, take}
use Rattle.std.specs.List.{filter_map}
use Rattle.check_gates.specs.Latches.{kept}
use Rattle.check_gates.proofs.admitted.admitted.Given as goal

abbrev pub invariant-loop-gate : goal.invariant-loop-gate
invariant-loop-gate l =
    l.found.items ≡ filter_map (kept l.inputs) (take l.gate-index l.gates)
