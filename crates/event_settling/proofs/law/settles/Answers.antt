use Rattle.net_model.specs.Control.{InClockCone}
use Rattle.event_settling.proofs.Rests.{settles}
use Rattle.event_settling.proofs.law.settles.Goals as goal

pub returns : goal.returns
returns c d level lawful h = settles d lawful level (InClockCone d) h
