use Rattle.event_laws.proofs.Laws.{writes_inside}
use Rattle.event_laws.proofs.body_law.writes_inside.Goals as goal

pub returns : goal.returns
returns c = writes_inside
