use Rattle.std.proofs.Common.{take}
use Rattle.desk_sqlite.specs.Columns.{HoldAll}
use Rattle.desk_sqlite.proofs.rows.read_all.Given as goal

abbrev pub invariant-loop-row : goal.invariant-loop-row
invariant-loop-row g l = HoldAll g.R.Stored.columns (take l.row-index l.answer) l.rows.items
