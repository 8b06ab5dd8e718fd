use Rattle.event_runs.proofs.Laws.{unheard_after}
use Rattle.event_runs.proofs.law.unheard_after.Goals as goal

pub returns : goal.returns
returns c = unheard_after
