use Rattle.event_laws.proofs.Once.{end_or_stop}
use Rattle.event_laws.proofs.once_law.end_or_stop.Goals as goal

pub returns : goal.returns
returns c = end_or_stop
