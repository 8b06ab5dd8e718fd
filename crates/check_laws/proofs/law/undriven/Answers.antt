use Rattle.check_laws.proofs.Designs.{undriven}
use Rattle.check_laws.proofs.law.undriven.Goals as goal

pub returns : goal.returns
returns c = undriven
