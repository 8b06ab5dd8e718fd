-- Dates as they are written, `YYYY-MM-DD` (RFC 3339, section 5.6), as days of the calendar of Gregory.
-- Worked examples: crates/desk_dates/proofs/Example.antt.
use Rattle.std.specs.Prelude.{ℕ, zero, suc, ◌+◌, ◌-◌, ◌*◌, ◌/◌, Bool, ◌&&◌, ◌==◌, nat_le, ℤ, pos, ◌+ℤ◌, List, length, take, drop, slice_index, Option, None, if◌then◌else◌}
use Rattle.std.specs.List.{list_all}
use Rattle.std.specs.Char.{is_ascii_digit}
use Rattle.std.specs.Str.{byte}
use Rattle.desk_tables.specs.Days.{day_of}
use Rattle.desk_tables.specs.Limits.{FIRST_DAY}
use Rattle.desk_dates.specs.Dates.{Date, month_days}

-- what a digit counts
abbrev pub digit_at : ℕ → List ℕ → ℕ
digit_at place text = slice_index text place - 48

-- the number that two digits write
abbrev pub pair_at : ℕ → List ℕ → ℕ
pair_at place text = 10 * digit_at place text + digit_at (place + 1) text

-- ten characters: four digits, two and two, with `-` between
abbrev pub is_date_text : List ℕ → Bool
is_date_text text =
    length text == 10
    && list_all is_ascii_digit (take 4 text)
    && slice_index text 4 == byte "-"
    && list_all is_ascii_digit (take 2 (drop 5 text))
    && slice_index text 7 == byte "-"
    && list_all is_ascii_digit (drop 8 text)

-- what these digits say
abbrev pub date_in : List ℕ → Date
date_in text = record {
  year = 100 * pair_at 0 text + pair_at 2 text;
  month = pair_at 5 text;
  day = pair_at 8 text;
}

-- the calendar has the date
abbrev pub is_date : Date → Bool
is_date date =
    nat_le 1 date.month && nat_le date.month 12
    && nat_le 1 date.day && nat_le date.day (month_days date.year date.month)

-- how many days come before a year, from 0000-01-01: 365 for each year, and one for each leap year
abbrev pub days_before_year : ℕ → ℕ
days_before_year year = 365 * year + (year + 3) / 4 - (year + 99) / 100 + (year + 399) / 400

-- how many days the first months of a year have
abbrev pub days_in_months : ℕ → ℕ → ℕ
days_in_months year zero = 0
days_in_months year (suc months) = days_in_months year months + month_days year (suc months)

-- how many days come before a date, from 0000-01-01
abbrev pub days_before : Date → ℕ
days_before date =
    days_before_year date.year + days_in_months date.year (date.month - 1) + (date.day - 1)

-- the day that a text is
abbrev pub day_of_text : List ℕ → Option ℤ
day_of_text text =
    if is_date_text text && is_date (date_in text)
    then day_of (pos (days_before (date_in text)) +ℤ FIRST_DAY)
    else None
