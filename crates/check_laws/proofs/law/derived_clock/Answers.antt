use Rattle.check_laws.proofs.Clocks.{derived_clock}
use Rattle.check_laws.proofs.law.derived_clock.Goals as goal

pub returns : goal.returns
returns c = derived_clock
