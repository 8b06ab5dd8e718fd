-- It serves inner contracts and proofs; no answer of the program is stated by it.
-- Dates as the code makes them.
use Rattle.desk_dates.specs.Dates.{Date}
use Rattle.desk_dates.specs.declared.calendar.Date.{Date as Made}

abbrev pub seen : Made → Date
seen made = record { year = made.year; month = made.month; day = made.day }
