use Rattle.check_laws.proofs.Expressions.{tristate}
use Rattle.check_laws.proofs.law.tristate.Goals as goal

pub returns : goal.returns
returns c = tristate
