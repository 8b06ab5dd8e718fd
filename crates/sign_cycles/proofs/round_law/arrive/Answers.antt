use Rattle.sign_cycles.proofs.RoundLaws.{arrive}
use Rattle.sign_cycles.proofs.round_law.arrive.Goals as goal

pub returns : goal.returns
returns c = arrive
