use Rattle.sign_cycles.proofs.DataSteps.{settled_both}
use Rattle.sign_cycles.proofs.law.settled_both.Goals as goal

pub returns : goal.returns
returns c = settled_both
