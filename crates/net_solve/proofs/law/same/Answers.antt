use Rattle.net_solve.proofs.Same.{same}
use Rattle.net_solve.proofs.law.same.Goals as goal

pub returns : goal.returns
returns c = same
