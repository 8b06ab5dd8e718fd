use Rattle.std.proofs.Common.{◌≡◌, map, take}
use Rattle.desk_rows.specs.Rows.{unwaived, waived}
use Rattle.desk_rows.proofs.unwaived.Given as goal

abbrev pub invariant-loop-row : goal.invariant-loop-row
invariant-loop-row l = map waived l.made.items ≡ map unwaived (take l.row-index l.rows)
