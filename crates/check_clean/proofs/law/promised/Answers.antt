use Rattle.check_clean.proofs.Promise.{promised}
use Rattle.check_clean.proofs.law.promised.Goals as goal

pub returns : goal.returns
returns c = promised
