use Rattle.desk_records.proofs.Fills.{no_put}
use Rattle.desk_records.proofs.limits.fills_files.Goals as goal

pub returns-in_default : goal.returns-in_default
returns-in_default c = no_put c.args.ask.now c.args.files.now c.in_default.not-PutFile
