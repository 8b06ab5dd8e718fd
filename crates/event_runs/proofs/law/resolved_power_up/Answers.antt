use Rattle.event_runs.proofs.Laws.{resolved_power_up}
use Rattle.event_runs.proofs.law.resolved_power_up.Goals as goal

pub returns : goal.returns
returns c = resolved_power_up
