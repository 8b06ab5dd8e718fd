use Rattle.event_runs.proofs.Laws.{offered_run}
use Rattle.event_runs.proofs.law.offered_run.Goals as goal

pub returns : goal.returns
returns c = offered_run
