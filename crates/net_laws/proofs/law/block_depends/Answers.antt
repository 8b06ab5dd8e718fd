use Rattle.net_laws.proofs.Laws.{block_depends}
use Rattle.net_laws.proofs.law.block_depends.Goals as goal

pub returns : goal.returns
returns c = block_depends
