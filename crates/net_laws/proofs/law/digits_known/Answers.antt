use Rattle.net_laws.proofs.Laws.{digits_known}
use Rattle.net_laws.proofs.law.digits_known.Goals as goal

pub returns : goal.returns
returns c = digits_known
