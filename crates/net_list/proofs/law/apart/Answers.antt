use Rattle.net_list.proofs.Apart.{apart}
use Rattle.net_list.proofs.law.apart.Goals as goal

pub returns : goal.returns
returns c = apart
