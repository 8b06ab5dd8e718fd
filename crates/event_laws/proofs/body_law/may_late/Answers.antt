use Rattle.event_laws.proofs.Laws.{may_late}
use Rattle.event_laws.proofs.body_law.may_late.Goals as goal

pub returns : goal.returns
returns c = may_late
