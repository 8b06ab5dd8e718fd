use Rattle.event_laws.proofs.Steady.{steady_power_up}
use Rattle.event_laws.proofs.law.steady_power_up.Goals as goal

pub returns : goal.returns
returns c = steady_power_up
