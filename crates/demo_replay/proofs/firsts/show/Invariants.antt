use Rattle.demo_replay.proofs.Showing.{ArePartly}
use Rattle.demo_replay.proofs.firsts.show.Given as goal

abbrev pub invariant-loop-at : goal.invariant-loop-at
invariant-loop-at l = ArePartly l.setup l.clocked l.findings l.trial.number l.at l.found
