use Rattle.std.proofs.Common.{◌≡◌, ◌+◌, drop}
use Rattle.demo_replay.specs.Tables.{compared, first_in}
use Rattle.demo_replay.proofs.firsts.first_in.Given as goal

abbrev pub invariant-loop-before : goal.invariant-loop-before
invariant-loop-before l =
    first_in (compared l.setup l.clocked l.finding) (l.before + 1) (drop l.before l.steps) ≡ first_in (compared l.setup l.clocked l.finding) 1 l.steps
