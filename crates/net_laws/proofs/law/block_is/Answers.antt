use Rattle.net_laws.proofs.Laws.{block_is}
use Rattle.net_laws.proofs.law.block_is.Goals as goal

pub returns : goal.returns
returns c = block_is
