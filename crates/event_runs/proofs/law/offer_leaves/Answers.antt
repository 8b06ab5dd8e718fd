use Rattle.event_runs.proofs.Laws.{offer_leaves}
use Rattle.event_runs.proofs.law.offer_leaves.Goals as goal

pub returns : goal.returns
returns c = offer_leaves
