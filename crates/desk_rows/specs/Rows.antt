-- The rows of a report.
-- Worked examples: crates/tests_rows/stdin.
use Rattle.std.specs.Prelude.{ℤ, Option, None}
use Rattle.desk_tables.specs.declared.rows.WaiverId.{WaiverId}
use Rattle.desk_rows.specs.declared.Row.{Row}
use Rattle.desk_rows.specs.declared.WaivedRow.{WaivedRow}

-- a row with the waiver that stands for its finding, and the waiver's last day
pub record Waived : Type 0 where
  pub row : Row
  pub waiver : Option (WaiverId × ℤ)

-- a row for whose finding no waiver stands
abbrev pub unwaived : Row → Waived
unwaived row = record { row = row; waiver = None }

-- what a contract sees of a row with its waiver
abbrev pub waived : WaivedRow → Waived
waived one = record { row = one.row.now; waiver = one.waiver }
