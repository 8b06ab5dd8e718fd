use Rattle.check_laws.proofs.Expressions.{select_range}
use Rattle.check_laws.proofs.law.select_range.Goals as goal

pub returns : goal.returns
returns c = select_range
