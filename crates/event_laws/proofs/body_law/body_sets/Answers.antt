use Rattle.event_laws.proofs.Laws.{body_sets}
use Rattle.event_laws.proofs.body_law.body_sets.Goals as goal

pub returns : goal.returns
returns c = body_sets
