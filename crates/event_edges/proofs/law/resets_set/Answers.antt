use Rattle.event_edges.proofs.Laws.{resets_set}
use Rattle.event_edges.proofs.law.resets_set.Goals as goal

pub returns : goal.returns
returns c = resets_set
