use Rattle.event_laws.proofs.Laws.{made_out}
use Rattle.event_laws.proofs.body_law.made_out.Goals as goal

pub returns : goal.returns
returns c = made_out
