use Rattle.std.proofs.Common.{drop}
use Rattle.name_map.specs.Values.{values_of}
use Rattle.desk_rulings.proofs.Indexed.{Leads}
use Rattle.desk_rulings.proofs.index.index_of.Given as goal

abbrev pub invariant-loop-row : goal.invariant-loop-row
invariant-loop-row l = Leads (values_of l.index) l.today (drop l.row-index l.rows) l.rows
