use Rattle.event_edges.proofs.Laws.{turning_after}
use Rattle.event_edges.proofs.law.turning_after.Goals as goal

pub returns : goal.returns
returns c = turning_after
