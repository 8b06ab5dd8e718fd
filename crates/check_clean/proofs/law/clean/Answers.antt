use Rattle.check_clean.proofs.Clean.{clean}
use Rattle.check_clean.proofs.law.clean.Goals as goal

pub returns : goal.returns
returns c = clean
