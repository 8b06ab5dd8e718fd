use Rattle.check_loops.specs.Rounds.{AreLoops}
use Rattle.check_loops.proofs.spread.searched.Given as goal

abbrev pub invariant-loop-node : goal.invariant-loop-node
invariant-loop-node l = AreLoops l.rows l.node l.answers.items
