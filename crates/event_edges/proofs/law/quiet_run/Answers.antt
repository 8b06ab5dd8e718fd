use Rattle.event_edges.proofs.Laws.{quiet_run}
use Rattle.event_edges.proofs.law.quiet_run.Goals as goal

pub returns : goal.returns
returns c = quiet_run
