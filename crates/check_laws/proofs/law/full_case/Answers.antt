use Rattle.check_laws.proofs.Cases.{full_case}
use Rattle.check_laws.proofs.law.full_case.Goals as goal

pub returns : goal.returns
returns c = full_case
