use Rattle.sign_cycles.proofs.BringUp.{known_settles}
use Rattle.sign_cycles.proofs.law.known_settles.Goals as goal

pub returns : goal.returns
returns c = known_settles
