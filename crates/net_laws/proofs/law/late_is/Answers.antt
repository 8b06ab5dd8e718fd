use Rattle.net_laws.proofs.Laws.{late_is}
use Rattle.net_laws.proofs.law.late_is.Goals as goal

pub returns : goal.returns
returns c = late_is
