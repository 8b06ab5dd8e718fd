use Rattle.std.proofs.Common.{◌≡◌, drop}
use Rattle.check_loops.specs.Rounds.{is_fed}
use Rattle.check_loops.proofs.spread.is_fed.Given as goal

abbrev pub invariant-loop-from : goal.invariant-loop-from
invariant-loop-from l = is_fed l.start l.marks (drop l.from-index l.row) ≡ is_fed l.start l.marks l.row
