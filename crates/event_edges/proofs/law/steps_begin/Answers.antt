use Rattle.event_edges.proofs.Laws.{steps_begin}
use Rattle.event_edges.proofs.law.steps_begin.Goals as goal

pub returns : goal.returns
returns c = steps_begin
