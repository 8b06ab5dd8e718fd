use Rattle.event_laws.proofs.Laws.{written_out}
use Rattle.event_laws.proofs.body_law.written_out.Goals as goal

pub returns : goal.returns
returns c = written_out
