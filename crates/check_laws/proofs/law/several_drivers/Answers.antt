use Rattle.check_laws.proofs.Designs.{several_drivers}
use Rattle.check_laws.proofs.law.several_drivers.Goals as goal

pub returns : goal.returns
returns c = several_drivers
