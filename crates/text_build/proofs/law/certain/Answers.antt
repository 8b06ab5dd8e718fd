use Rattle.text_build.proofs.Certain.{certain}
use Rattle.text_build.proofs.law.certain.Goals as goal

pub returns : goal.returns
returns c = certain
