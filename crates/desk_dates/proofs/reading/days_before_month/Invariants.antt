use Rattle.std.proofs.Common.{◌≡◌, ◌≤◌, ◌*◌, ◌-◌}
use Rattle.desk_dates.specs.Reading.{days_in_months}
use Rattle.desk_dates.proofs.reading.days_before_month.Given as goal

abbrev pub invariant-loop-passed : goal.invariant-loop-passed
invariant-loop-passed l = record {
  some : 1 ≤ l.passed;
  counted : l.days ≡ days_in_months l.year (l.passed - 1);
  small : l.days ≤ 31 * (l.passed - 1);
}
