use Rattle.event_runs.proofs.Laws.{untouched}
use Rattle.event_runs.proofs.law.untouched.Goals as goal

pub returns : goal.returns
returns c = untouched
