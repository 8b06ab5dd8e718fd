use Rattle.event_laws.proofs.Laws.{value_size}
use Rattle.event_laws.proofs.body_law.value_size.Goals as goal

pub returns : goal.returns
returns c = value_size
