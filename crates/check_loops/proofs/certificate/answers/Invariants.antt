use Rattle.check_loops.specs.Rounds.{AreAnswered}
use Rattle.check_loops.proofs.certificate.answers.Given as goal

abbrev pub invariant-loop-node : goal.invariant-loop-node
invariant-loop-node l = AreAnswered l.rows l.groups l.node l.answers.items
