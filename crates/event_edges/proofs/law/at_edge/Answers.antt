use Rattle.event_edges.proofs.Laws.{at_edge}
use Rattle.event_edges.proofs.law.at_edge.Goals as goal

pub returns : goal.returns
returns c = at_edge
