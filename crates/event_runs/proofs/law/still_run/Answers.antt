use Rattle.event_runs.proofs.Laws.{still_run}
use Rattle.event_runs.proofs.law.still_run.Goals as goal

pub returns : goal.returns
returns c = still_run
