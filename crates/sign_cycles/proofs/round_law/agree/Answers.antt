use Rattle.sign_cycles.proofs.RoundLaws.{agree}
use Rattle.sign_cycles.proofs.round_law.agree.Goals as goal

pub returns : goal.returns
returns c = agree
