use Rattle.desk_tables.specs.Seen.{seen}
use Rattle.desk_tables.proofs.Looked.{FilesPassed}
use Rattle.desk_tables.proofs.rules.broken_file.Given as goal

abbrev pub invariant-loop-index : goal.invariant-loop-index
invariant-loop-index l = FilesPassed l.rows l.index l.bytes (seen l.names)
