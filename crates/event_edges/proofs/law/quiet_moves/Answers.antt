use Rattle.event_edges.proofs.Laws.{quiet_moves}
use Rattle.event_edges.proofs.law.quiet_moves.Goals as goal

pub returns : goal.returns
returns c = quiet_moves
