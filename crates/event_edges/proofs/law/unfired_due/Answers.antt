use Rattle.event_edges.proofs.Levels.{unfired_due}
use Rattle.event_edges.proofs.law.unfired_due.Goals as goal

pub returns : goal.returns
returns c = unfired_due
