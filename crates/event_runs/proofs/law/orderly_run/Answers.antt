use Rattle.event_runs.proofs.Laws.{orderly_run}
use Rattle.event_runs.proofs.law.orderly_run.Goals as goal

pub returns : goal.returns
returns c = orderly_run
