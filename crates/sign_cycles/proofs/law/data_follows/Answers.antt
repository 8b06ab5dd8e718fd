use Rattle.sign_cycles.proofs.GateSteps.{data_follows}
use Rattle.sign_cycles.proofs.law.data_follows.Goals as goal

pub returns : goal.returns
returns c = data_follows
