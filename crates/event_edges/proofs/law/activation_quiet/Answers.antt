use Rattle.event_edges.proofs.Laws.{activation_quiet}
use Rattle.event_edges.proofs.law.activation_quiet.Goals as goal

pub returns : goal.returns
returns c = activation_quiet
