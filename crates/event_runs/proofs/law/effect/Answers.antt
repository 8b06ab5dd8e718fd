use Rattle.event_runs.proofs.Laws.{effect}
use Rattle.event_runs.proofs.law.effect.Goals as goal

pub returns : goal.returns
returns c = effect
