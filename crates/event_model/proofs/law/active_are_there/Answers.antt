use Rattle.event_model.proofs.Choices.{active_are_there}
use Rattle.event_model.proofs.law.active_are_there.Goals as goal

pub returns : goal.returns
returns c = active_are_there
