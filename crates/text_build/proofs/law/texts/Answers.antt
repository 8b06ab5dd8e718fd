use Rattle.text_build.proofs.CertainModules.{texts}
use Rattle.text_build.proofs.law.texts.Goals as goal

pub returns : goal.returns
returns c = texts
