use Rattle.event_runs.proofs.Laws.{late_none}
use Rattle.event_runs.proofs.law.late_none.Goals as goal

pub returns : goal.returns
returns c = late_none
