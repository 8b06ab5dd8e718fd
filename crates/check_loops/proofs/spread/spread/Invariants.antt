use Rattle.check_loops.specs.Rounds.{IsSpreading}
use Rattle.check_loops.proofs.spread.spread.Given as goal

abbrev pub invariant-loop-node : goal.invariant-loop-node
invariant-loop-node l = IsSpreading l.rows l.fn.start l.node l.fn.marks.items l.marks.items l.grown
