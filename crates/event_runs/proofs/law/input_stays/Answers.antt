use Rattle.event_runs.proofs.Laws.{input_stays}
use Rattle.event_runs.proofs.law.input_stays.Goals as goal

pub returns : goal.returns
returns c = input_stays
