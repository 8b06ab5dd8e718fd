use Rattle.check_loops.specs.Rounds.{IsLooked}
use Rattle.check_loops.proofs.certificate.inside.Given as goal

abbrev pub invariant-loop-at : goal.invariant-loop-at
invariant-loop-at l = IsLooked l.groups l.row l.own l.at l.inside
