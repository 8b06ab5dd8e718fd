use Rattle.event_runs.proofs.Laws.{orderly_power_up}
use Rattle.event_runs.proofs.law.orderly_power_up.Goals as goal

pub returns : goal.returns
returns c = orderly_power_up
