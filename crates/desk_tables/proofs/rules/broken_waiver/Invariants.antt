use Rattle.desk_tables.specs.Rules.{waiver_breaks}
use Rattle.desk_tables.proofs.Broken.{Passed}
use Rattle.desk_tables.proofs.rules.broken_waiver.Given as goal

abbrev pub invariant-loop-index : goal.invariant-loop-index
invariant-loop-index l = Passed waiver_breaks l.rows l.index
