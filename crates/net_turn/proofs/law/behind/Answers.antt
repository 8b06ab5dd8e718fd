use Rattle.net_turn.proofs.Bridges.{behind}
use Rattle.net_turn.proofs.law.behind.Goals as goal

pub returns : goal.returns
returns c = behind
