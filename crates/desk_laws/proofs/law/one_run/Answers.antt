use Rattle.desk_laws.proofs.OneRun.{one_run}
use Rattle.desk_laws.proofs.law.one_run.Goals as goal

pub returns : goal.returns
returns c = one_run
