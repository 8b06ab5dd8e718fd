use Rattle.check_clean.proofs.Runs.{settles}
use Rattle.check_clean.proofs.law.settles.Goals as goal

pub returns : goal.returns
returns c = settles
