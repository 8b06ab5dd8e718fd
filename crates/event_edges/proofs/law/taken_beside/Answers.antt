use Rattle.event_edges.proofs.Laws.{taken_beside}
use Rattle.event_edges.proofs.law.taken_beside.Goals as goal

pub returns : goal.returns
returns c = taken_beside
