use Rattle.check_laws.proofs.Designs.{latch_inferred}
use Rattle.check_laws.proofs.law.latch_inferred.Goals as goal

pub returns : goal.returns
returns c = latch_inferred
