use Rattle.std.proofs.Common.{◌≡◌, ◌+◌, ◌-◌, ◌≤◌}
use Rattle.desk_dates.specs.Dates.{in_years}
use Rattle.desk_dates.proofs.calendar.date_in_years.Given as goal

abbrev pub invariant-loop-turn : goal.invariant-loop-turn
invariant-loop-turn l = (in_years (399 - l._turn) l.year l.days ≡ in_years 399 l.fn.from l.fn.whole) × (l.year ≡ l.fn.from + l._turn) × (l.days ≤ l.fn.whole)
