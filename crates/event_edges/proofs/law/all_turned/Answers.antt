use Rattle.event_edges.proofs.Laws.{all_turned}
use Rattle.event_edges.proofs.law.all_turned.Goals as goal

pub returns : goal.returns
returns c = all_turned
