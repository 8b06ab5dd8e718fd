use Rattle.event_runs.proofs.Laws.{orderly_after}
use Rattle.event_runs.proofs.law.orderly_after.Goals as goal

pub returns : goal.returns
returns c = orderly_after
