use Rattle.check_laws.proofs.Clocks.{derived_clock_once}
use Rattle.check_laws.proofs.law.derived_clock_once.Goals as goal

pub returns : goal.returns
returns c = derived_clock_once
