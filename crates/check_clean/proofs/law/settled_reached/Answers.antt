use Rattle.check_clean.proofs.Starts.{settled_reached}
use Rattle.check_clean.proofs.law.settled_reached.Goals as goal

pub returns : goal.returns
returns c = settled_reached
