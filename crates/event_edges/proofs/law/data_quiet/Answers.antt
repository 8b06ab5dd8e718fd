use Rattle.event_edges.proofs.Laws.{data_quiet}
use Rattle.event_edges.proofs.law.data_quiet.Goals as goal

pub returns : goal.returns
returns c = data_quiet
