use Rattle.sign_cycles.proofs.BringUp.{brings_up}
use Rattle.sign_cycles.proofs.law.brings_up.Goals as goal

pub returns : goal.returns
returns c = brings_up
