use Rattle.event_runs.proofs.Laws.{offer_gives}
use Rattle.event_runs.proofs.law.offer_gives.Goals as goal

pub returns : goal.returns
returns c = offer_gives
