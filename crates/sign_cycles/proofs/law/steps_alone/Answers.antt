use Rattle.sign_cycles.proofs.Alone.{steps_alone}
use Rattle.sign_cycles.proofs.law.steps_alone.Goals as goal

pub returns : goal.returns
returns c = steps_alone
