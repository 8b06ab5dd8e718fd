use Rattle.event_laws.proofs.Laws.{depends}
use Rattle.event_laws.proofs.body_law.depends.Goals as goal

pub returns : goal.returns
returns c = depends
