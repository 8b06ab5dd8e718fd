use Rattle.std.proofs.Common.{◌≡◌, ◌++◌, take}
use Rattle.check_gates.specs.Admitted.{gates_of}
use Rattle.check_gates.specs.Latches.{gates_at}
use Rattle.check_gates.proofs.latches.push_inputs.Given as goal

abbrev pub invariant-loop-input : goal.invariant-loop-input
invariant-loop-input l =
    gates_of l.gates.items ≡ gates_of l.fn.gates.items ++ gates_at l.p.0 l.form (take l.input-index l.inputs)
