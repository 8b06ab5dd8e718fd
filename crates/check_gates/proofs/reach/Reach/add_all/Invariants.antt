use Rattle.std.proofs.Common.{take}
use Rattle.check_gates.specs.Reach.{Finds}
use Rattle.check_gates.proofs.reach.Reach.add_all.Given as goal

abbrev pub invariant-loop-node : goal.invariant-loop-node
invariant-loop-node l = Finds (take l.node-index l.nodes) l.fn.self l.self
