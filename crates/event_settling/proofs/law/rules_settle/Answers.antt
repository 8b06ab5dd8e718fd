use Rattle.event_settling.proofs.Conditions.{rules_settle}
use Rattle.event_settling.proofs.law.rules_settle.Goals as goal

pub returns : goal.returns
returns c d level lawful h = rules_settle d lawful level h
