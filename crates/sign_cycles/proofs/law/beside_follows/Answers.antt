use Rattle.sign_cycles.proofs.Beside.{beside_follows}
use Rattle.sign_cycles.proofs.law.beside_follows.Goals as goal

pub returns : goal.returns
returns c = beside_follows
