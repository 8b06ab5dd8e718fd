use Rattle.net_model.specs.Control.{InClockCone}
use Rattle.event_settling.proofs.Rests.{rests}
use Rattle.event_settling.proofs.law.rests.Goals as goal

pub returns : goal.returns
returns c d level lawful h = rests d lawful level (InClockCone d) h
