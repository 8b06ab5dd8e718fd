use Rattle.net_laws.proofs.Laws.{numbers_after}
use Rattle.net_laws.proofs.law.numbers_after.Goals as goal

pub returns : goal.returns
returns c = numbers_after
