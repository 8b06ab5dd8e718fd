use Rattle.sign_cycles.proofs.Steps.{known_both}
use Rattle.sign_cycles.proofs.law.known_both.Goals as goal

pub returns : goal.returns
returns c = known_both
