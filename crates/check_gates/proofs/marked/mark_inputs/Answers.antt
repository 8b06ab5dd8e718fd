use Rattle.check_gates.specs.Latches.{own_input}
use Rattle.check_gates.proofs.Marking.{gate_is, gate_there}
use Rattle.check_gates.proofs.Waiting.{marked_next}
use Rattle.check_gates.proofs.marked.mark_inputs.Goals as goal

pub loop-gate-preserved : goal.loop-gate-preserved
loop-gate-preserved c =
    let gates = c.args.gates.now in
    let at = c.loop-gate.gate-index in
    marked_next own_input gates at (gate_there gates at) c.args.marks.now c.loop-gate.marks c.mark.new.marks c.loop-gate-test.true (gate_is gates at c.loop-gate-test.true) c.loop-gate.invariant c.mark.ensures
