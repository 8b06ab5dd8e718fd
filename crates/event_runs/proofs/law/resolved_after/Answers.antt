use Rattle.event_runs.proofs.Laws.{resolved_after}
use Rattle.event_runs.proofs.law.resolved_after.Goals as goal

pub returns : goal.returns
returns c = resolved_after
