use Rattle.check_laws.proofs.Designs.{never_wakes}
use Rattle.check_laws.proofs.law.never_wakes.Goals as goal

pub returns : goal.returns
returns c = never_wakes
