use Rattle.net_model.specs.Control.{InClockCone}
use Rattle.event_settling.proofs.Rests.{always_settled}
use Rattle.event_settling.proofs.law.always_settled.Goals as goal

pub returns : goal.returns
returns c d level lawful h = always_settled d lawful level (InClockCone d) h
