use Rattle.std.proofs.Common.{◌≡◌, drop}
use Rattle.demo_replay.specs.Tables.{compared, first_among}
use Rattle.demo_replay.proofs.compare.first_among.Given as goal

abbrev pub invariant-loop-difference : goal.invariant-loop-difference
invariant-loop-difference l =
    first_among (compared l.setup l.clocked l.finding) (drop l.difference-index l.differences) ≡ first_among (compared l.setup l.clocked l.finding) l.differences
