use Rattle.event_edges.proofs.Laws.{at_data}
use Rattle.event_edges.proofs.law.at_data.Goals as goal

pub returns : goal.returns
returns c = at_data
