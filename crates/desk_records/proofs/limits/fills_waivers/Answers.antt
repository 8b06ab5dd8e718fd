use Rattle.desk_records.proofs.Fills.{no_waive}
use Rattle.desk_records.proofs.limits.fills_waivers.Goals as goal

pub returns-in_default : goal.returns-in_default
returns-in_default c = no_waive c.args.ask.now c.args.count c.in_default.not-Waive
