use Rattle.event_laws.proofs.Laws.{may_make}
use Rattle.event_laws.proofs.body_law.may_make.Goals as goal

pub returns : goal.returns
returns c = may_make
