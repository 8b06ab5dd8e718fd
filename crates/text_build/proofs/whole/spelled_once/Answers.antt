use Rattle.text_build.proofs.Laws.Modules.{spelled_once}
use Rattle.text_build.proofs.whole.spelled_once.Goals as goal

pub returns : goal.returns
returns c = spelled_once
