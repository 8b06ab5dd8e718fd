use Rattle.event_laws.proofs.Laws.{have_made}
use Rattle.event_laws.proofs.body_law.have_made.Goals as goal

pub returns : goal.returns
returns c = have_made
