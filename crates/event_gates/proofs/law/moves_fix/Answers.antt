use Rattle.event_gates.proofs.Laws.{moves_fix}
use Rattle.event_gates.proofs.law.moves_fix.Goals as goal

pub returns : goal.returns
returns c = moves_fix
