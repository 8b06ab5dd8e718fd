use Rattle.std.proofs.Common.{◌≡◌, drop}
use Rattle.demo_replay.specs.Tables.{is_compared_for_some}
use Rattle.demo_replay.proofs.compare.is_compared_for_some.Given as goal

abbrev pub invariant-loop-finding : goal.invariant-loop-finding
invariant-loop-finding l =
    is_compared_for_some l.setup l.clocked (drop l.finding-index l.findings) l.number.0 ≡ is_compared_for_some l.setup l.clocked l.findings l.number.0
