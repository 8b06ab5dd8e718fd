use Rattle.text_survey.proofs.Least.{goes_on}
use Rattle.text_survey.proofs.law.goes_on.Goals as goal

pub returns : goal.returns
returns c = goes_on
