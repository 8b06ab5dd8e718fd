use Rattle.event_laws.proofs.Once.{one_level}
use Rattle.event_laws.proofs.once_law.one_level.Goals as goal

pub returns : goal.returns
returns c = one_level
