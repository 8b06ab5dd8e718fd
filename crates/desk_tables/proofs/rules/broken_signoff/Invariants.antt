use Rattle.desk_tables.specs.Rules.{signoff_breaks}
use Rattle.desk_tables.proofs.Broken.{Passed}
use Rattle.desk_tables.proofs.rules.broken_signoff.Given as goal

abbrev pub invariant-loop-index : goal.invariant-loop-index
invariant-loop-index l = Passed (signoff_breaks l.version) l.rows l.index
