use Rattle.net_laws.proofs.Laws.{tame}
use Rattle.net_laws.proofs.law.tame.Goals as goal

pub returns : goal.returns
returns c = tame
