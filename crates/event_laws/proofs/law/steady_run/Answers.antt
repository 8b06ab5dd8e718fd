use Rattle.event_laws.proofs.Steady.{steady_run}
use Rattle.event_laws.proofs.law.steady_run.Goals as goal

pub returns : goal.returns
returns c = steady_run
