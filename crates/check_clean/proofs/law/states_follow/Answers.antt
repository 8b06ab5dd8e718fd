use Rattle.check_clean.proofs.Ending.{states_follow}
use Rattle.check_clean.proofs.law.states_follow.Goals as goal

pub returns : goal.returns
returns c = states_follow
