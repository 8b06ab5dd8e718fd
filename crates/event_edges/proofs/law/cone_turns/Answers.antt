use Rattle.event_edges.proofs.Laws.{cone_turns}
use Rattle.event_edges.proofs.law.cone_turns.Goals as goal

pub returns : goal.returns
returns c = cone_turns
