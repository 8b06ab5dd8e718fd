use Rattle.std.proofs.Common.{◌∙◌, arith}
use Rattle.desk_dates.specs.Dates.{in_years}
use Rattle.desk_dates.proofs.Turns.{in_years_here, in_years_next}
use Rattle.desk_dates.proofs.calendar.date_in_years.Goals as goal

pub returns-then-days-length : goal.returns-then-days-length
returns-then-days-length c =
    c.date_in_year.ensures
    ∙ in_years_here c.loop-turn._turn c.loop-turn.year c.loop-turn.days c.year_days-length.result (in_years 399 c.args.from c.args.whole) (omega arith) c.year_days-length.ensures.days (omega arith) c.loop-turn.invariant.0

pub loop-turn-preserved : goal.loop-turn-preserved
loop-turn-preserved c = (
  in_years_next c.loop-turn._turn c.loop-turn.year c.loop-turn.days c.year_days-length.result (in_years 399 c.args.from c.args.whole) (omega arith) c.year_days-length.ensures.days (omega arith) c.loop-turn.invariant.0,
  omega arith,
  omega arith,
)
