use Rattle.event_laws.proofs.Laws.{actions_made}
use Rattle.event_laws.proofs.body_law.actions_made.Goals as goal

pub returns : goal.returns
returns c = actions_made
