use Rattle.desk_records.proofs.Repeats.{repeats}
use Rattle.desk_records.proofs.law.kept_again.Goals as goal

pub returns : goal.returns
returns c = repeats
