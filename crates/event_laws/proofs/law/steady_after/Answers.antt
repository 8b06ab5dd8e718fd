use Rattle.event_laws.proofs.Steady.{steady_after}
use Rattle.event_laws.proofs.law.steady_after.Goals as goal

pub returns : goal.returns
returns c = steady_after
