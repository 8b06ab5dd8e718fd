use Rattle.desk_laws.proofs.OneAnswer.{one_outcome}
use Rattle.desk_laws.proofs.law.one_outcome.Goals as goal

pub returns : goal.returns
returns c = one_outcome c.one_line.ensures
