use Rattle.sign_cycles.proofs.RoundLaws.{settled_both}
use Rattle.sign_cycles.proofs.round_law.settled_both.Goals as goal

pub returns : goal.returns
returns c = settled_both
