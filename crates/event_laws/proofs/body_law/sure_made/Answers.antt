use Rattle.event_laws.proofs.Laws.{sure_made}
use Rattle.event_laws.proofs.body_law.sure_made.Goals as goal

pub returns : goal.returns
returns c = sure_made
