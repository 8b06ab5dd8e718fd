use Rattle.event_runs.proofs.Laws.{driven_resolved}
use Rattle.event_runs.proofs.law.driven_resolved.Goals as goal

pub returns : goal.returns
returns c = driven_resolved
