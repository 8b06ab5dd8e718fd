use Rattle.event_laws.proofs.Laws.{may_now}
use Rattle.event_laws.proofs.body_law.may_now.Goals as goal

pub returns : goal.returns
returns c = may_now
