use Rattle.event_edges.proofs.Laws.{set_at_rest}
use Rattle.event_edges.proofs.law.set_at_rest.Goals as goal

pub returns : goal.returns
returns c = set_at_rest
