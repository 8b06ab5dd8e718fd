use Rattle.net_settle.proofs.Carried.{carried}
use Rattle.net_settle.proofs.law.carried.Goals as goal

pub returns : goal.returns
returns c = carried
