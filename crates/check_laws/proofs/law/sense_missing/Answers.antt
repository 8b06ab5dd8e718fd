use Rattle.check_laws.proofs.Designs.{sense_missing}
use Rattle.check_laws.proofs.law.sense_missing.Goals as goal

pub returns : goal.returns
returns c = sense_missing
