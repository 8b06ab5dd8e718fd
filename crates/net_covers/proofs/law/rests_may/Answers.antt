use Rattle.net_covers.proofs.Laws.{rests_may}
use Rattle.net_covers.proofs.law.rests_may.Goals as goal

pub returns : goal.returns
returns c = rests_may
