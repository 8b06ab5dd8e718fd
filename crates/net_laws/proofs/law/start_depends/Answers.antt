use Rattle.net_laws.proofs.Laws.{start_depends}
use Rattle.net_laws.proofs.law.start_depends.Goals as goal

pub returns : goal.returns
returns c = start_depends
