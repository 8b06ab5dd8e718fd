-- Dates, on small cases.
use Rattle.std.proofs.Common.{◌≡◌, refl, codes}
use Rattle.std.specs.Prelude.{pos, negsuc, None, Some}
use Rattle.desk_dates.specs.Dates.{date_text, date_after, in_years, in_months}
use Rattle.desk_dates.specs.Reading.{day_of_text}

the_first_day_of_1970 : date_text (pos 0) ≡ codes "1970-01-01"
unfolding date_text date_after in_years in_months
the_first_day_of_1970 = refl

a_leap_day : date_text (pos 19782) ≡ codes "2024-02-29"
unfolding date_text date_after in_years in_months
a_leap_day = refl

the_first_day : date_text (negsuc 719527) ≡ codes "0000-01-01"
unfolding date_text date_after in_years in_months
the_first_day = refl

the_last_day : date_text (pos 2932896) ≡ codes "9999-12-31"
unfolding date_text date_after in_years in_months
the_last_day = refl

-- ---- texts

the_day_of_1970 : day_of_text (codes "1970-01-01") ≡ Some (pos 0)
the_day_of_1970 = refl

the_day_of_a_leap_day : day_of_text (codes "2024-02-29") ≡ Some (pos 19782)
the_day_of_a_leap_day = refl

no_leap_day : day_of_text (codes "2023-02-29") ≡ None
no_leap_day = refl

the_earliest : day_of_text (codes "0000-01-01") ≡ Some (negsuc 719527)
the_earliest = refl

the_latest : day_of_text (codes "9999-12-31") ≡ Some (pos 2932896)
the_latest = refl

a_week : day_of_text (codes "2024-W09-4") ≡ None
a_week = refl
