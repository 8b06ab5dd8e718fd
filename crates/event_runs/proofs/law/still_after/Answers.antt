use Rattle.event_runs.proofs.Laws.{still_after}
use Rattle.event_runs.proofs.law.still_after.Goals as goal

pub returns : goal.returns
returns c = still_after
