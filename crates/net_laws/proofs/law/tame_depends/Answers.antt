use Rattle.net_laws.proofs.Laws.{tame_depends}
use Rattle.net_laws.proofs.law.tame_depends.Goals as goal

pub returns : goal.returns
returns c = tame_depends
