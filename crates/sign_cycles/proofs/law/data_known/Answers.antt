use Rattle.sign_cycles.proofs.GateSteps.{data_known}
use Rattle.sign_cycles.proofs.law.data_known.Goals as goal

pub returns : goal.returns
returns c = data_known
