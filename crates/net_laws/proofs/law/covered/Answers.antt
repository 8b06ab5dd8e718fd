use Rattle.net_laws.proofs.Laws.{covered}
use Rattle.net_laws.proofs.law.covered.Goals as goal

pub returns : goal.returns
returns c = covered
