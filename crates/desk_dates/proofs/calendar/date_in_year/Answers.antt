use Rattle.std.proofs.Common.{arith}
use Rattle.desk_dates.specs.Dates.{in_months}
use Rattle.desk_dates.proofs.Turns.{in_months_here, in_months_next}
use Rattle.desk_dates.proofs.calendar.date_in_year.Goals as goal

pub returns-then-days-length : goal.returns-then-days-length
returns-then-days-length c =
    in_months_here c.loop-turn._turn c.args.year c.loop-turn.month c.loop-turn.days c.month_days-length.result (in_months 11 c.args.year 1 c.args.day) (omega arith) c.month_days-length.ensures (omega arith) c.loop-turn.invariant.0

pub loop-turn-preserved : goal.loop-turn-preserved
loop-turn-preserved c = (
  in_months_next c.loop-turn._turn c.args.year c.loop-turn.month c.loop-turn.days c.month_days-length.result (in_months 11 c.args.year 1 c.args.day) (omega arith) c.month_days-length.ensures (omega arith) c.loop-turn.invariant.0,
  omega arith,
  omega arith,
)
