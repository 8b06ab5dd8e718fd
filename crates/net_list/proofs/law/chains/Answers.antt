use Rattle.net_list.proofs.Formed.{are_chains}
use Rattle.net_list.proofs.law.chains.Goals as goal

pub returns : goal.returns
returns c = are_chains
