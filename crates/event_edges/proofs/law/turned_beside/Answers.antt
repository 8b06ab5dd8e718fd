use Rattle.event_edges.proofs.Laws.{turned_beside}
use Rattle.event_edges.proofs.law.turned_beside.Goals as goal

pub returns : goal.returns
returns c = turned_beside
