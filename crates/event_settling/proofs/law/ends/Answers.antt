use Rattle.net_model.specs.Control.{InClockCone}
use Rattle.event_settling.proofs.Ends.{ends}
use Rattle.event_settling.proofs.law.ends.Goals as goal

pub returns : goal.returns
returns c d level lawful h = ends d lawful level (InClockCone d) h
