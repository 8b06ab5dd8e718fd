use Rattle.std.proofs.Common.{◌≡◌, ◌++◌, drop, map}
use Rattle.desk_tables.specs.Tables.{kept_of}
use Rattle.desk_rows.specs.Rows.{waived}
use Rattle.desk_rulings.specs.Rulings.{standing_for, standing_of, verdict_of}
use Rattle.desk_rulings.proofs.standings.standing.Given as goal

abbrev pub invariant-loop-number : goal.invariant-loop-number
invariant-loop-number l =
    map waived l.found.items ++ map (standing_for l.fn.today (kept_of l.tables) (verdict_of l.ruled).files) (drop l.number l.ruled.rows.now) ≡ standing_of l.fn.today (kept_of l.tables) (verdict_of l.ruled)
