-- A turn of the search for the month and for the year of a day.
use Rattle.std.proofs.Common.{◌≡◌, ◌∙◌, ℕ, suc, ◌+◌, ◌-◌, ◌<◌, ◌≤◌, nat_lt, true, false, if◌then◌else◌, refl, subst, sym, ap, arith}
use Rattle.std.proofs.lemmas.Bool.{cond-true, cond-false}
use Rattle.std.proofs.lemmas.Bool.Decides.{nat_tests}
use Rattle.desk_dates.specs.Dates.{Date, in_months, in_years, month_days, year_days}

-- what is left of the turns before this one
suc_left : (turns turn : ℕ) → turn < turns → suc (turns - (turn + 1)) ≡ turns - turn
suc_left turns turn below = omega (arith, below)

in_months_suc : (more year month days : ℕ) → in_months (suc more) year month days ≡ (if nat_lt days (month_days year month) then record { year = year; month = month; day = days + 1 } else in_months more year (month + 1) (days - month_days year month))
unfolding in_months
in_months_suc more year month days = refl

pub in_months_turn : (turn year month days : ℕ) → turn < 11 → in_months (11 - turn) year month days ≡ (if nat_lt days (month_days year month) then record { year = year; month = month; day = days + 1 } else in_months (11 - (turn + 1)) year (month + 1) (days - month_days year month))
in_months_turn turn year month days below =
    let P : ℕ → Type 0 = λ left. in_months left year month days ≡ (if nat_lt days (month_days year month) then record { year = year; month = month; day = days + 1 } else in_months (11 - (turn + 1)) year (month + 1) (days - month_days year month)) in
    subst P (suc_left 11 turn below) (in_months_suc (11 - (turn + 1)) year month days)

in_months_none : (year month days : ℕ) → in_months 0 year month days ≡ record { year = year; month = month; day = days + 1 }
unfolding in_months
in_months_none year month days = refl

in_years_suc : (more year days : ℕ) → in_years (suc more) year days ≡ (if nat_lt days (year_days year) then in_months 11 year 1 days else in_years more (year + 1) (days - year_days year))
unfolding in_years
in_years_suc more year days = refl

pub in_years_turn : (turn year days : ℕ) → turn < 399 → in_years (399 - turn) year days ≡ (if nat_lt days (year_days year) then in_months 11 year 1 days else in_years (399 - (turn + 1)) (year + 1) (days - year_days year))
in_years_turn turn year days below =
    let P : ℕ → Type 0 = λ left. in_years left year days ≡ (if nat_lt days (year_days year) then in_months 11 year 1 days else in_years (399 - (turn + 1)) (year + 1) (days - year_days year)) in
    subst P (suc_left 399 turn below) (in_years_suc (399 - (turn + 1)) year days)

in_years_none : (year days : ℕ) → in_years 0 year days ≡ in_months 11 year 1 days
unfolding in_years
in_years_none year days = refl

none_left : (turns turn : ℕ) → turns ≤ turn → 0 ≡ turns - turn
none_left turns turn reached = omega (arith, reached)

pub in_months_end : (turn year month days : ℕ) → 11 ≤ turn → in_months (11 - turn) year month days ≡ record { year = year; month = month; day = days + 1 }
in_months_end turn year month days reached =
    let P : ℕ → Type 0 = λ left. in_months left year month days ≡ record { year = year; month = month; day = days + 1 } in
    subst P (none_left 11 turn reached) (in_months_none year month days)

pub in_years_end : (turn year days : ℕ) → 399 ≤ turn → in_years (399 - turn) year days ≡ in_months 11 year 1 days
in_years_end turn year days reached =
    let P : ℕ → Type 0 = λ left. in_years left year days ≡ in_months 11 year 1 days in
    subst P (none_left 399 turn reached) (in_years_none year days)

-- the day stands in this month
pub in_months_here : (turn year month days length : ℕ) (whole : Date) → turn < 11 → length ≡ month_days year month → days < length → in_months (11 - turn) year month days ≡ whole → record { year = year; month = month; day = days + 1 } ≡ whole
in_months_here turn year month days length whole below same inside known =
    let holds : nat_lt days (month_days year month) ≡ true = grind (arith, nat_tests, same, inside) in
    sym (in_months_turn turn year month days below ∙ cond-true (nat_lt days (month_days year month)) _ _ holds) ∙ known

-- it stands in a later one
pub in_months_next : (turn year month days length : ℕ) (whole : Date) → turn < 11 → length ≡ month_days year month → length ≤ days → in_months (11 - turn) year month days ≡ whole → in_months (11 - (turn + 1)) year (month + 1) (days - length) ≡ whole
in_months_next turn year month days length whole below same reached known =
    let fails : nat_lt days (month_days year month) ≡ false = grind (arith, nat_tests, same, reached) in
    ap (λ n. in_months (11 - (turn + 1)) year (month + 1) (days - n)) same
    ∙ sym (in_months_turn turn year month days below ∙ cond-false (nat_lt days (month_days year month)) _ _ fails)
    ∙ known

-- the day stands in this year
pub in_years_here : (turn year days length : ℕ) (whole : Date) → turn < 399 → length ≡ year_days year → days < length → in_years (399 - turn) year days ≡ whole → in_months 11 year 1 days ≡ whole
in_years_here turn year days length whole below same inside known =
    let holds : nat_lt days (year_days year) ≡ true = grind (arith, nat_tests, same, inside) in
    sym (in_years_turn turn year days below ∙ cond-true (nat_lt days (year_days year)) _ _ holds) ∙ known

-- it stands in a later one
pub in_years_next : (turn year days length : ℕ) (whole : Date) → turn < 399 → length ≡ year_days year → length ≤ days → in_years (399 - turn) year days ≡ whole → in_years (399 - (turn + 1)) (year + 1) (days - length) ≡ whole
in_years_next turn year days length whole below same reached known =
    let fails : nat_lt days (year_days year) ≡ false = grind (arith, nat_tests, same, reached) in
    ap (λ n. in_years (399 - (turn + 1)) (year + 1) (days - n)) same
    ∙ sym (in_years_turn turn year days below ∙ cond-false (nat_lt days (year_days year)) _ _ fails)
    ∙ known
