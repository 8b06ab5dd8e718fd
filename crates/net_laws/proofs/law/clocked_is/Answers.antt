use Rattle.net_laws.proofs.Laws.{clocked_is}
use Rattle.net_laws.proofs.law.clocked_is.Goals as goal

pub returns : goal.returns
returns c = clocked_is
