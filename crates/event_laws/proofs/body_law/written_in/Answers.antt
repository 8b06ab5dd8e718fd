use Rattle.event_laws.proofs.Laws.{written_in}
use Rattle.event_laws.proofs.body_law.written_in.Goals as goal

pub returns : goal.returns
returns c = written_in
