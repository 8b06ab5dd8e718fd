use Rattle.desk_refusals.proofs.OneLine.{one_line}
use Rattle.desk_refusals.proofs.law.one_line.Goals as goal

pub returns : goal.returns
returns c = one_line
