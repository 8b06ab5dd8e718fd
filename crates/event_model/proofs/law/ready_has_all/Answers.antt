use Rattle.event_model.proofs.Choices.{ready_has_all}
use Rattle.event_model.proofs.law.ready_has_all.Goals as goal

pub returns : goal.returns
returns c = ready_has_all
