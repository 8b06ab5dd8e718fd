-- Days as dates (ISO 8601): the calendar of Gregory, for the years 0000 to 9999.
-- Worked examples: crates/desk_dates/proofs/Example.antt.
use Rattle.std.specs.Prelude.{ℕ, zero, suc, ◌+◌, ◌-◌, ◌*◌, ◌/◌, ◌%◌, Bool, ◌&&◌, ◌||◌, ◌==◌, not, nat_lt, ℤ, ◌-ℤ◌, nat_abs, codes, List, [], ◌∷◌, ◌++◌, if◌then◌else◌}
use Rattle.desk_tables.specs.Limits.{FIRST_DAY}

-- every fourth year, but of those that end a century only every fourth
abbrev pub is_leap : ℕ → Bool
is_leap year = year % 4 == 0 && (not (year % 100 == 0) || year % 400 == 0)

-- how many days a year has
abbrev pub year_days : ℕ → ℕ
year_days year = if is_leap year then 366 else 365

-- how many days a month has, from 1
abbrev pub month_days : ℕ → ℕ → ℕ
month_days year month =
    if month == 2 then (if is_leap year then 29 else 28)
    else (if month == 4 || month == 6 || month == 9 || month == 11 then 30 else 31)

-- a day of a month of a year, each of these two from 1
pub record Date : Type 0 where
  pub year : ℕ
  pub month : ℕ
  pub day : ℕ

-- the date that is so many days after the first of a month, at most so many months later
unfoldable pub in_months : ℕ → ℕ → ℕ → ℕ → Date
in_months zero year month days = record { year = year; month = month; day = days + 1 }
in_months (suc more) year month days =
    if nat_lt days (month_days year month) then record { year = year; month = month; day = days + 1 }
    else in_months more year (month + 1) (days - month_days year month)

-- the date that is so many days after the first of a year, at most so many years later
unfoldable pub in_years : ℕ → ℕ → ℕ → Date
in_years zero year days = in_months 11 year 1 days
in_years (suc more) year days =
    if nat_lt days (year_days year) then in_months 11 year 1 days
    else in_years more (year + 1) (days - year_days year)

-- the date of so many days after 0000-01-01; 400 years have 146,097 days
unfoldable pub date_after : ℕ → Date
date_after days = in_years 399 (400 * (days / 146097)) (days % 146097)

-- the date of a day
abbrev pub date_of : ℤ → Date
date_of number = date_after (nat_abs (number -ℤ FIRST_DAY))

-- the last digit of a number
abbrev pub digit : ℕ → ℕ
digit number = 48 + number % 10

abbrev pub two_digits : ℕ → List ℕ
two_digits number = digit (number / 10) ∷ digit number ∷ []

-- a date as `YYYY-MM-DD`
abbrev pub written : Date → List ℕ
written date =
    two_digits (date.year / 100) ++ two_digits date.year ++ codes "-" ++ two_digits date.month ++ codes "-" ++ two_digits date.day

-- the date of a day, as `YYYY-MM-DD`
unfoldable pub date_text : ℤ → List ℕ
date_text number = written (date_of number)
