use Rattle.event_laws.proofs.Steady.{steady_offer}
use Rattle.event_laws.proofs.law.steady_offer.Goals as goal

pub returns : goal.returns
returns c = steady_offer
