use Rattle.event_settling.proofs.Ends.{steps_start}
use Rattle.event_settling.proofs.law.steps_start.Goals as goal

pub returns : goal.returns
returns c = steps_start
