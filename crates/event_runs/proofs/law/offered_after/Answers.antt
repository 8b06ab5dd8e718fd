use Rattle.event_runs.proofs.Laws.{offered_after}
use Rattle.event_runs.proofs.law.offered_after.Goals as goal

pub returns : goal.returns
returns c = offered_after
