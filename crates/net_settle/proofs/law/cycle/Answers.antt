use Rattle.net_settle.proofs.Cycles.{cycle}
use Rattle.net_settle.proofs.law.cycle.Goals as goal

pub returns : goal.returns
returns c = cycle
