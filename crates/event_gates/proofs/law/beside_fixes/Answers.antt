use Rattle.event_gates.proofs.Laws.{beside_fixes}
use Rattle.event_gates.proofs.law.beside_fixes.Goals as goal

pub returns : goal.returns
returns c = beside_fixes
