use Rattle.desk_tables.specs.Seen.{seen}
use Rattle.desk_tables.proofs.Looked.{RepliesPassed}
use Rattle.desk_tables.proofs.rules.broken_reply.Given as goal

abbrev pub invariant-loop-index : goal.invariant-loop-index
invariant-loop-index l = RepliesPassed l.rows l.index (seen l.requests)
