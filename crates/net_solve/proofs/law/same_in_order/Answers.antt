use Rattle.net_solve.proofs.Ranked.{same_in_order}
use Rattle.net_solve.proofs.law.same_in_order.Goals as goal

pub returns : goal.returns
returns c = same_in_order
