use Rattle.sign_cycles.proofs.Steps.{register_is}
use Rattle.sign_cycles.proofs.law.register_is.Goals as goal

pub returns : goal.returns
returns c = register_is
