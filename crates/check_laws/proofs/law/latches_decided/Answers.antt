use Rattle.check_laws.proofs.Gates.{latches_decided}
use Rattle.check_laws.proofs.law.latches_decided.Goals as goal

pub returns : goal.returns
returns c = latches_decided
