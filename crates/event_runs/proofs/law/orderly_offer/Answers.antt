use Rattle.event_runs.proofs.Laws.{orderly_offer}
use Rattle.event_runs.proofs.law.orderly_offer.Goals as goal

pub returns : goal.returns
returns c = orderly_offer
