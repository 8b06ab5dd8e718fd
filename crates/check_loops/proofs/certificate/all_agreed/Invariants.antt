use Rattle.check_loops.specs.Rounds.{AreAgreed}
use Rattle.check_loops.proofs.certificate.all_agreed.Given as goal

abbrev pub invariant-loop-node : goal.invariant-loop-node
invariant-loop-node l = AreAgreed l.one l.other l.node l.groups.items
