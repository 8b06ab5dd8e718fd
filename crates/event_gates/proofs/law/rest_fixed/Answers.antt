use Rattle.event_gates.proofs.Laws.{rest_fixed}
use Rattle.event_gates.proofs.law.rest_fixed.Goals as goal

pub returns : goal.returns
returns c = rest_fixed
