use Rattle.net_laws.proofs.Laws.{exact}
use Rattle.net_laws.proofs.law.exact.Goals as goal

pub returns : goal.returns
returns c = exact
