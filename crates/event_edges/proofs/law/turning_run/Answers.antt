use Rattle.event_edges.proofs.Laws.{turning_run}
use Rattle.event_edges.proofs.law.turning_run.Goals as goal

pub returns : goal.returns
returns c = turning_run
