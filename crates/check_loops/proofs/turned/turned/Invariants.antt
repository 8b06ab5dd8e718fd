use Rattle.check_loops.specs.Rounds.{TurnsBack}
use Rattle.check_loops.proofs.turned.turned.Given as goal

abbrev pub invariant-loop-from : goal.invariant-loop-from
invariant-loop-from l = TurnsBack l.rows l.table.items
