-- Days, as numbers of days since 1970-01-01.
-- Worked examples: crates/desk_tables/proofs/Example.antt.
use Rattle.std.specs.Prelude.{ℤ, ◌≤ℤ◌, int_le, ◌&&◌, Option, Some, None, if◌then◌else◌}
use Rattle.desk_tables.specs.Limits.{FIRST_DAY, LAST_DAY}

-- the day is in the years 0000 to 9999
abbrev pub IsDay : ℤ → Type 0
IsDay number = (FIRST_DAY ≤ℤ number) × (number ≤ℤ LAST_DAY)

-- the day of this number, where there is one
abbrev pub day_of : ℤ → Option ℤ
day_of number = if int_le FIRST_DAY number && int_le number LAST_DAY then Some number else None
