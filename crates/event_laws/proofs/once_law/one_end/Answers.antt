use Rattle.event_laws.proofs.Once.{one_end}
use Rattle.event_laws.proofs.once_law.one_end.Goals as goal

pub returns : goal.returns
returns c = one_end
