use Rattle.demo_replay.specs.Tables.{AreShownBelow}
use Rattle.demo_replay.proofs.firsts.attach_some.Given as goal

abbrev pub invariant-loop-number : goal.invariant-loop-number
invariant-loop-number l =
    AreShownBelow l.setup.design.now l.setup l.clocked.items l.findings l.number l.found.items
