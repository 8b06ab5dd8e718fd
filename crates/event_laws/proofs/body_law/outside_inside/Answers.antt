use Rattle.event_laws.proofs.Laws.{outside_inside}
use Rattle.event_laws.proofs.body_law.outside_inside.Goals as goal

pub returns : goal.returns
returns c = outside_inside
