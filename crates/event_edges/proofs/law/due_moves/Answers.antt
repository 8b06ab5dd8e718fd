use Rattle.event_edges.proofs.Laws.{due_moves}
use Rattle.event_edges.proofs.law.due_moves.Goals as goal

pub returns : goal.returns
returns c = due_moves
