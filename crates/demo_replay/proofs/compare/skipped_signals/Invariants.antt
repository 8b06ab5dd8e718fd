use Rattle.std.proofs.Common.{◌≡◌}
use Rattle.demo_replay.specs.Tables.{skips}
use Rattle.demo_replay.proofs.compare.skipped_signals.Given as goal

abbrev pub invariant-loop-number : goal.invariant-loop-number
invariant-loop-number l =
    l.skipped.items ≡ skips l.setup l.clocked l.findings l.number
