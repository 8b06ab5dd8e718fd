use Rattle.event_settling.proofs.Ends.{stops_at_rest}
use Rattle.event_settling.proofs.law.stops_at_rest.Goals as goal

pub returns : goal.returns
returns c = stops_at_rest
