use Rattle.desk_records.proofs.Accepted.{accepted_once}
use Rattle.desk_records.proofs.law.accepted_once.Goals as goal

pub returns : goal.returns
returns c = accepted_once
