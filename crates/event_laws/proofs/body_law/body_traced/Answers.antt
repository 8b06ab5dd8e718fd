use Rattle.event_laws.proofs.Laws.{body_traced}
use Rattle.event_laws.proofs.body_law.body_traced.Goals as goal

pub returns : goal.returns
returns c = body_traced
