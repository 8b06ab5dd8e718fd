use Rattle.net_model.specs.Control.{InClockCone}
use Rattle.event_settling.proofs.Rests.{steps_begin}
use Rattle.event_settling.proofs.law.steps_begin.Goals as goal

pub returns : goal.returns
returns c d level lawful h = steps_begin d lawful level (InClockCone d) h
