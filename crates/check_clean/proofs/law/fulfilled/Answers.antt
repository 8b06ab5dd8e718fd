use Rattle.check_clean.proofs.Ending.{fulfilled}
use Rattle.check_clean.proofs.law.fulfilled.Goals as goal

pub returns : goal.returns
returns c = fulfilled
