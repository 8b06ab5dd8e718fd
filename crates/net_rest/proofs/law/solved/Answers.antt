use Rattle.net_rest.proofs.Laws.{solved}
use Rattle.net_rest.proofs.law.solved.Goals as goal

pub returns : goal.returns
returns c = solved
