use Rattle.sign_cycles.proofs.Unfired.{unfired_agrees}
use Rattle.sign_cycles.proofs.law.unfired_agrees.Goals as goal

pub returns : goal.returns
returns c = unfired_agrees
