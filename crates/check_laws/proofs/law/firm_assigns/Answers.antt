use Rattle.check_laws.proofs.Bodies.{firm_assigns}
use Rattle.check_laws.proofs.law.firm_assigns.Goals as goal

pub returns : goal.returns
returns c = firm_assigns
