use Rattle.event_laws.proofs.Laws.{writes_variables}
use Rattle.event_laws.proofs.body_law.writes_variables.Goals as goal

pub returns : goal.returns
returns c = writes_variables
