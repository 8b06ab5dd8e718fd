use Rattle.sign_cycles.proofs.Lists.{agree_by_steps}
use Rattle.sign_cycles.proofs.law.agree_by_steps.Goals as goal

pub returns : goal.returns
returns c = agree_by_steps
