use Rattle.net_laws.proofs.Laws.{firm}
use Rattle.net_laws.proofs.law.firm.Goals as goal

pub returns : goal.returns
returns c = firm
