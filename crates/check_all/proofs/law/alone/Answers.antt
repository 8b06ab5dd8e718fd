use Rattle.check_all.proofs.law.alone.Goals as goal
use Rattle.check_all.proofs.Alone.{alone}

pub returns : goal.returns
returns c = alone
