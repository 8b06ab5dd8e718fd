use Rattle.event_runs.proofs.Laws.{unheard_run}
use Rattle.event_runs.proofs.law.unheard_run.Goals as goal

pub returns : goal.returns
returns c = unheard_run
