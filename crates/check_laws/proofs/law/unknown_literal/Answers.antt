use Rattle.check_laws.proofs.Expressions.{unknown_literal}
use Rattle.check_laws.proofs.law.unknown_literal.Goals as goal

pub returns : goal.returns
returns c = unknown_literal
