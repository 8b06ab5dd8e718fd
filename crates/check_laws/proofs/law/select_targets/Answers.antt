use Rattle.check_laws.proofs.Targets.{select_targets}
use Rattle.check_laws.proofs.law.select_targets.Goals as goal

pub returns : goal.returns
returns c = select_targets
