use Rattle.net_laws.proofs.Laws.{whole_path}
use Rattle.net_laws.proofs.law.whole_path.Goals as goal

pub returns : goal.returns
returns c = whole_path
