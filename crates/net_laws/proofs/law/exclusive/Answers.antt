use Rattle.net_laws.proofs.Laws.{exclusive}
use Rattle.net_laws.proofs.law.exclusive.Goals as goal

pub returns : goal.returns
returns c = exclusive
