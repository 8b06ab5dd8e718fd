use Rattle.event_runs.proofs.Laws.{driver_rests}
use Rattle.event_runs.proofs.law.driver_rests.Goals as goal

pub returns : goal.returns
returns c = driver_rests
