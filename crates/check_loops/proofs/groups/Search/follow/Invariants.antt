use Rattle.check_loops.specs.Rounds.{IsSound}
use Rattle.check_loops.proofs.groups.Search.follow.Given as goal

abbrev pub invariant-loop-from : goal.invariant-loop-from
invariant-loop-from l = IsSound l.fn.rows l.fn.group.root l.self
