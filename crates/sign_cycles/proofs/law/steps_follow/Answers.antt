use Rattle.sign_cycles.proofs.Steps.{steps_follow}
use Rattle.sign_cycles.proofs.law.steps_follow.Goals as goal

pub returns : goal.returns
returns c = steps_follow
