use Rattle.event_laws.proofs.Laws.{body_sure_any}
use Rattle.event_laws.proofs.body_law.body_sure_any.Goals as goal

pub returns : goal.returns
returns c = body_sure_any
