use Rattle.check_loops.specs.Rounds.{IsSound}
use Rattle.check_loops.proofs.groups.Search.run.Given as goal

abbrev pub invariant-loop : goal.invariant-loop
invariant-loop l = IsSound l.fn.rows l.fn.group.root l.self
