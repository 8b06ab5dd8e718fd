use Rattle.check_loops.specs.Rounds.{PutsAll}
use Rattle.check_loops.proofs.turned.put_all.Given as goal

abbrev pub invariant-loop-node : goal.invariant-loop-node
invariant-loop-node l = PutsAll l.nodes l.node-index l.from l.fn.table.items l.table.items
