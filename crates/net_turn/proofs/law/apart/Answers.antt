use Rattle.net_turn.proofs.Bridges.{apart}
use Rattle.net_turn.proofs.law.apart.Goals as goal

pub returns : goal.returns
returns c = apart
