use Rattle.check_laws.proofs.Cases.{parallel_case}
use Rattle.check_laws.proofs.law.parallel_case.Goals as goal

pub returns : goal.returns
returns c = parallel_case
