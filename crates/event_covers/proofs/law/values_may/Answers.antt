use Rattle.event_covers.proofs.Laws.{values_may}
use Rattle.event_covers.proofs.law.values_may.Goals as goal

pub returns : goal.returns
returns c = values_may
