use Rattle.event_covers.proofs.Laws.{bodies_may}
use Rattle.event_covers.proofs.law.bodies_may.Goals as goal

pub returns : goal.returns
returns c = bodies_may
