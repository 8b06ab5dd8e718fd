use Rattle.net_solve.proofs.Worked.{worked}
use Rattle.net_solve.proofs.law.worked.Goals as goal

pub returns : goal.returns
returns c = worked
