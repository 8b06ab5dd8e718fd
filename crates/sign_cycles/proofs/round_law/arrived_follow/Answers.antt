use Rattle.sign_cycles.proofs.RoundLaws.{arrived_follow}
use Rattle.sign_cycles.proofs.round_law.arrived_follow.Goals as goal

pub returns : goal.returns
returns c = arrived_follow
