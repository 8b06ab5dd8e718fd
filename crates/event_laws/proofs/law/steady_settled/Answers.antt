use Rattle.event_laws.proofs.Steady.{steady_settled}
use Rattle.event_laws.proofs.law.steady_settled.Goals as goal

pub returns : goal.returns
returns c = steady_settled
