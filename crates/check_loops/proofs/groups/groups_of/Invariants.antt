use Rattle.check_loops.specs.Rounds.{AreLed}
use Rattle.check_loops.proofs.groups.groups_of.Given as goal

abbrev pub invariant-loop-rank : goal.invariant-loop-rank
invariant-loop-rank l = AreLed l.fn.rows l.search.groups.items
