use Rattle.net_rest.proofs.Laws.{solutions_rest}
use Rattle.net_rest.proofs.law.solutions_rest.Goals as goal

pub returns : goal.returns
returns c = solutions_rest
