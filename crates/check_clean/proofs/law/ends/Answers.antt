use Rattle.check_clean.proofs.Runs.{ends}
use Rattle.check_clean.proofs.law.ends.Goals as goal

pub returns : goal.returns
returns c = ends
