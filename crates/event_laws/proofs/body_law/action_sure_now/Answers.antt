use Rattle.event_laws.proofs.Laws.{action_sure_now}
use Rattle.event_laws.proofs.body_law.action_sure_now.Goals as goal

pub returns : goal.returns
returns c = action_sure_now
