use Rattle.check_laws.proofs.Expressions.{divide_variable}
use Rattle.check_laws.proofs.law.divide_variable.Goals as goal

pub returns : goal.returns
returns c = divide_variable
