use Rattle.unknown_starts.proofs.Laws.{completes}
use Rattle.unknown_starts.proofs.law.completes.Goals as goal

pub returns : goal.returns
returns c = completes
