use Rattle.check_laws.proofs.Temporaries.{temporaries_decided}
use Rattle.check_laws.proofs.law.temporaries_decided.Goals as goal

pub returns : goal.returns
returns c = temporaries_decided
