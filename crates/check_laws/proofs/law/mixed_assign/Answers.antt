use Rattle.check_laws.proofs.Designs.{mixed_assign}
use Rattle.check_laws.proofs.law.mixed_assign.Goals as goal

pub returns : goal.returns
returns c = mixed_assign
