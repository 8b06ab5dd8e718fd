-- How long months are.
use Rattle.std.proofs.Common.{ℕ, ◌≤◌, ◌==◌, ◌||◌, Bool, true, false, cond, arith}
use Rattle.desk_dates.specs.Dates.{is_leap, month_days}

short : (a b c : Bool) → cond a (cond b 29 28) (cond c 30 31) ≤ 31
short true true c = omega arith
short true false c = omega arith
short false b true = omega arith
short false b false = omega arith

pub month_is_short : (year month : ℕ) → month_days year month ≤ 31
month_is_short year month =
    short (month == 2) (is_leap year) (month == 4 || month == 6 || month == 9 || month == 11)
