use Rattle.net_model.specs.Control.{InClockCone}
use Rattle.event_settling.proofs.Policies.{policies_rest}
use Rattle.event_settling.proofs.law.policies_rest.Goals as goal

pub returns : goal.returns
returns c d level lawful h = policies_rest d lawful level (InClockCone d) h
