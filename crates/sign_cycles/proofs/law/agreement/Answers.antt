use Rattle.sign_cycles.proofs.Steps.{agreement}
use Rattle.sign_cycles.proofs.law.agreement.Goals as goal

pub returns : goal.returns
returns c = agreement
