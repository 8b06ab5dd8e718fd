use Rattle.event_laws.proofs.Laws.{made_alike}
use Rattle.event_laws.proofs.body_law.made_alike.Goals as goal

pub returns : goal.returns
returns c = made_alike
