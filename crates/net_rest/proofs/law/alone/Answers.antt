use Rattle.net_rest.proofs.Laws.{alone}
use Rattle.net_rest.proofs.law.alone.Goals as goal

pub returns : goal.returns
returns c = alone
