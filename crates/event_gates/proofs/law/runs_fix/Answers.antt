use Rattle.event_gates.proofs.Laws.{runs_fix}
use Rattle.event_gates.proofs.law.runs_fix.Goals as goal

pub returns : goal.returns
returns c = runs_fix
