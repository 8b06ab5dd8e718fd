use Rattle.check_laws.proofs.Stored.{stored}
use Rattle.check_laws.proofs.law.stored.Goals as goal

pub returns : goal.returns
returns c = stored
