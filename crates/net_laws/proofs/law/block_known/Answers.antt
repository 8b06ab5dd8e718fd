use Rattle.net_laws.proofs.Laws.{block_known}
use Rattle.net_laws.proofs.law.block_known.Goals as goal

pub returns : goal.returns
returns c = block_known
