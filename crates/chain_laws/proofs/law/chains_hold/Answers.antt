use Rattle.chain_laws.proofs.Chained.{chains_hold}
use Rattle.chain_laws.proofs.law.chains_hold.Goals as goal

pub returns : goal.returns
returns c = chains_hold
