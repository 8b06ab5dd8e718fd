use Rattle.sign_firm.proofs.Firm.{complete_by_rules}
use Rattle.sign_firm.proofs.law.complete_by_rules.Goals as goal

pub returns : goal.returns
returns c = complete_by_rules
