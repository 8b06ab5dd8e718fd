use Rattle.event_gates.proofs.Laws.{closes}
use Rattle.event_gates.proofs.law.closes.Goals as goal

pub returns : goal.returns
returns c = closes
