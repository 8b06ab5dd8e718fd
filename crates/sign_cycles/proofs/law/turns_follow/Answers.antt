use Rattle.sign_cycles.proofs.Steps.{turns_follow}
use Rattle.sign_cycles.proofs.law.turns_follow.Goals as goal

pub returns : goal.returns
returns c = turns_follow
