use Rattle.std.proofs.Common.{◌≡◌, ◌+◌, ◌-◌, ◌≤◌}
use Rattle.desk_dates.specs.Dates.{in_months}
use Rattle.desk_dates.proofs.calendar.date_in_year.Given as goal

abbrev pub invariant-loop-turn : goal.invariant-loop-turn
invariant-loop-turn l = (in_months (11 - l._turn) l.year l.month l.days ≡ in_months 11 l.year 1 l.fn.day) × (l.month ≡ l._turn + 1) × (l.days ≤ l.fn.day)
