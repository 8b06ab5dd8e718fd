use Rattle.event_runs.proofs.Laws.{resolved_run}
use Rattle.event_runs.proofs.law.resolved_run.Goals as goal

pub returns : goal.returns
returns c = resolved_run
