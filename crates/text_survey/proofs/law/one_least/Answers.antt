use Rattle.text_survey.proofs.Least.{one_least}
use Rattle.text_survey.proofs.law.one_least.Goals as goal

pub returns : goal.returns
returns c = one_least
