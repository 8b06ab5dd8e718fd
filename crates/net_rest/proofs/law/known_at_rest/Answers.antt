use Rattle.net_rest.proofs.Laws.{known_at_rest}
use Rattle.net_rest.proofs.law.known_at_rest.Goals as goal

pub returns : goal.returns
returns c = known_at_rest
