use Rattle.desk_records.proofs.Fills.{no_signoff}
use Rattle.desk_records.proofs.limits.fills_signoffs.Goals as goal

pub returns-in_default : goal.returns-in_default
returns-in_default c = no_signoff c.args.ask.now c.args.count c.in_default.not-SignOff
