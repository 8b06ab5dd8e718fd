use Rattle.desk_laws.proofs.OneBuilt.{one_built}
use Rattle.desk_laws.proofs.law.one_built.Goals as goal

pub returns : goal.returns
returns c = one_built c.one_line.ensures
